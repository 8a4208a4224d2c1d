use Rattle.std.proofs.Common.{◌≡◌, ◌+◌, ◌-◌, ◌≤◌, ◌++◌, length, take, drop, refl, ap, ◌∙◌, zero-le, arith, length-append, take_at, drop_at}
use Rattle.tinyvec_slots.specs.Ranges.{items_within}
use Rattle.tinyvec_slots.proofs.DrainLemmas.{begins_as}
use Rattle.tinyvec_array.specs.View.{view}
use Rattle.tinyvec_array.specs.DrainLaws.{drain_of}
use Rattle.tinyvec_array.specs.ViewLaws.{becomes, same_place}
use Rattle.tinyvec_array.proofs.RuleLemmas.{rule_freed}
use Rattle.tinyvec_array.proofs.ViewLemmas.{SameLender-then, fewer}
use Rattle.tinyvec_array.proofs.drain.ArrayVec+S.drain.Goals as goal

pub drain_held-requires : goal.drain_held-requires
drain_held-requires g c =
    let M = items_within (view g.S.Slots c.args.self.now).items (g.R.RangeBounds.start_bound c.args.range) (g.R.RangeBounds.end_bound c.args.range) in
    (zero-le, omega (arith, ap length c.cut_out-count.ensures.spare, length-append M (view g.S.Slots c.args.self.now).spare, c.cut_out-count.ensures.count))

pub returns-clause-begins : goal.returns-clause-begins
returns-clause-begins g c =
    let cut = c.cut_out-count in
    let n = cut.result in
    let M = items_within (view g.S.Slots c.args.self.now).items (g.R.RangeBounds.start_bound c.args.range) (g.R.RangeBounds.end_bound c.args.range) in
    let S = (view g.S.Slots c.args.self.now).spare in
    let spare = (view g.S.Slots cut.new.self).spare in
    let none : n - 0 ≡ n = omega arith in
    let within : n - 0 ≤ length spare = omega (arith, ap length cut.ensures.spare, length-append M S, cut.ensures.count) in
    let taken : take (n - 0) spare ≡ M = ap (λ m. take m spare) none ∙ ap (take n) cut.ensures.spare ∙ take_at M S n cut.ensures.count in
    let rest : drop n spare ≡ S = ap (drop n) cut.ensures.spare ∙ drop_at M S n cut.ensures.count in
    begins_as (drain_of g.S.Slots g.S.Item.Default.is_default) _ c.args.self _ _ _ _ _ _ c.drain_held.result c.drain_held.ensures.begins refl taken rest
    (λ u ended.
    let none_before : 0 + (n - 0) ≡ n = omega arith in
    let left = ended.1 (omega (arith, within)) in
    let lender = SameLender-then g.S.Slots c.args.self.now cut.new.self u cut.ensures.lender ended.0.0 in
    let listed = ended.0.1 ∙ cut.ensures.items in
    let gone = fewer (view g.S.Slots c.args.self.now).items (g.R.RangeBounds.start_bound c.args.range) (g.R.RangeBounds.end_bound c.args.range) c.requires.in_list in
    becomes g.S.Slots g.S.Item.Default.is_default c.args.self.now u (same_place g.S.Slots c.args.self.now u lender)
    (rule_freed g.S.Item.Default.is_default _ _ _ _ n (omega (arith, gone, ap length listed, cut.ensures.count)) (left.0, (left.1.0 ∙ none, left.1.1), left.2 ∙ ap (λ m. left.0 ++ drop m spare) none_before ∙ ap (λ xs. left.0 ++ xs) rest)) _ listed)

pub returns-clause-lender : goal.returns-clause-lender
returns-clause-lender g c = rw c.drain_held.ensures.vec c.cut_out-count.ensures.lender

pub returns-clause-items : goal.returns-clause-items
returns-clause-items g c = rw c.drain_held.ensures.vec c.cut_out-count.ensures.items
