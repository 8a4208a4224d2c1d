use Rattle.std.proofs.Common.{◌≡◌, ◌-◌, ◌++◌, length, take, take_all, sym, ap, ◌∙◌, arith}
use Rattle.tinyvec_slots.proofs.SlotsLemmas.{slots_used}
use Rattle.tinyvec_array.specs.ArrayVec.{view_of}
use Rattle.tinyvec_array.specs.View.{view}
use Rattle.tinyvec_array.proofs.array_vec.in_array.ArrayVec+A.resize_with.Goals as goal

pub returns-clause-items : goal.returns-clause-items
returns-clause-items g c =
    let L = (view g.A.Slots c.args.self.now).items in
    let h = c.grow_by_answers.ensures.items in
    let all : take c.args.new_len L ≡ L = take_all c.args.new_len L (omega (arith, c.len-len.ensures.value, c.if-new_len-len.false)) in
    (h.0, c.grow_by_answers.new.f, h.1 ∙ ap (λ l. l ++ h.0) (sym all), h.2)

pub returns-clause-slot_rule : goal.returns-clause-slot_rule
returns-clause-slot_rule g c =
    let v = c.args.self.now in
    let h = c.grow_by_answers.ensures in
    let long = c.len-len.ensures.value in
    let more = c.if-new_len-len.false in
    slots_used g.A.Item.Default.is_default (view_of g.A.Slots v) (view_of g.A.Slots c.grow_by_answers.new.self) (c.args.new_len - length (view g.A.Slots v).items)
    (omega (arith, h.len, long, more)) h.spare
