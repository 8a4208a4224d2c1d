use Rattle.std.proofs.Common.{◌≡◌, ◌+◌, ◌<◌, length, ap, ◌∙◌, arith, length-append}
use Rattle.std.proofs.lemmas.Grind.{common_steps}
use Rattle.std.proofs.lemmas.List.{nil_from_length}
use Rattle.tinyvec_array.specs.View.{view}
use Rattle.tinyvec_slots.proofs.FillingLemmas.{extends_all, extends_full}
use Rattle.tinyvec_array.proofs.ViewLemmas.{parts_of}
use Rattle.tinyvec_array.proofs.array_vec.extending.ArrayVec+S.extend.Goals as goal

pub returns-then-not-is_full-clause-items : goal.returns-then-not-is_full-clause-items
returns-then-not-is_full-clause-items g c =
    let (it, xs, begun, run, is) = c.fill-items.ensures.items.ran in
    let L = (view g.S.Slots c.args.self.now).items in
    let S = (view g.S.Slots c.args.self.now).spare in
    let new = c.fill-items.new.self in
    let grown = ap length is ∙ length-append L xs in
    let all = ap (λ p. p.capacity) c.fill-items.ensures.grows.place in
    let left : length (view g.S.Slots new).items + length (view g.S.Slots new).spare ≡ length L + length S = omega (arith, all, parts_of g.S.Slots c.args.self.now, parts_of g.S.Slots new) in
    let room : 0 < length (view g.S.Slots new).spare = grind (arith, common_steps) in
    extends_all _ _ _ _ _ it xs begun is c.fill-items.result _ run.at_most_n (run.ended (omega (arith, grown, left, room)))

pub returns-in-Some-clause-items : goal.returns-in-Some-clause-items
returns-in-Some-clause-items g c =
    let (it, xs, begun, run, is) = c.fill-items.ensures.items.ran in
    let L = (view g.S.Slots c.args.self.now).items in
    let S = (view g.S.Slots c.args.self.now).spare in
    let new = c.fill-items.new.self in
    let grown = ap length is ∙ length-append L xs in
    let all = ap (λ p. p.capacity) c.fill-items.ensures.grows.place in
    let left : length (view g.S.Slots new).items + length (view g.S.Slots new).spare ≡ length L + length S = omega (arith, all, parts_of g.S.Slots c.args.self.now, parts_of g.S.Slots new) in
    let none : length (view g.S.Slots new).spare ≡ 0 = grind (arith, common_steps) in
    let full : length xs ≡ length S = omega (arith, grown, left, none, run.at_most_n) in
    extends_full _ _ _ _ _ it xs begun is c.next.new.self c.in-Some.item full (c.fill-items.result, run.stopped full, c.in-Some.ensures.steps)

pub returns-in-Some-clause-full : goal.returns-in-Some-clause-full
returns-in-Some-clause-full g c = nil_from_length (view g.S.Slots c.fill-items.new.self).spare (grind (arith, common_steps))

pub returns-in-None-clause-items : goal.returns-in-None-clause-items
returns-in-None-clause-items g c =
    let (it, xs, begun, run, is) = c.fill-items.ensures.items.ran in
    let L = (view g.S.Slots c.args.self.now).items in
    let S = (view g.S.Slots c.args.self.now).spare in
    let new = c.fill-items.new.self in
    let grown = ap length is ∙ length-append L xs in
    let all = ap (λ p. p.capacity) c.fill-items.ensures.grows.place in
    let left : length (view g.S.Slots new).items + length (view g.S.Slots new).spare ≡ length L + length S = omega (arith, all, parts_of g.S.Slots c.args.self.now, parts_of g.S.Slots new) in
    let none : length (view g.S.Slots new).spare ≡ 0 = grind (arith, common_steps) in
    let full : length xs ≡ length S = omega (arith, grown, left, none, run.at_most_n) in
    extends_all _ _ _ _ _ it xs begun is c.next.new.self _ run.at_most_n (c.fill-items.result, run.stopped full, c.in-None.ensures.steps)
