use Rattle.std.proofs.Common.{refl, rules, ◌-◌, ◌≤◌, ◌++◌, length, arith, ap, ◌∙◌, append_assoc, drop_at, length-take-le, take, drop}
use Rattle.std.proofs.lemmas.Grind.{common_steps}
use Rattle.tinyvec_slots.proofs.BorderLemmas.{spare_from, within}
use Rattle.tinyvec_array.specs.ViewLaws.{one_place}
use Rattle.tinyvec_array.proofs.RuleLemmas.{rule_freed}
use Rattle.tinyvec_array.proofs.array_vec.edits.ArrayVec+S.cut_to.Goals as goal

pub returns : goal.returns
returns g c =
    let v = c.args.self.now in
    let slots = g.S.Slots.slots v.slots in
    let m = c.args.new_len in
    let n = c.len-len.result in
    let long = c.len-len.ensures.value in
    let made = c.fill_default.ensures in
    let le : m ≤ length slots = omega (arith, c.requires, within (g.S.Slots.count v.len) slots n long) in
    let behind = ap (drop m) (append_assoc (take m slots) made.0 (drop n slots))
    ∙ drop_at (take m slots) (made.0 ++ drop n slots) m (length-take-le m slots le)
    ∙ ap (λ l. made.0 ++ l) (spare_from (g.S.Slots.count v.len) slots n long) in
    record {
      items = grind (arith, common_steps);
      place = one_place refl (ap length (g.S.Slots.slots_written v.slots c.fill_default.new.slots) ∙ c.fill_default.auto.slots ∙ ap length c.as_slice_mut.ensures.value)
          (g.S.Slots.name_kept v.slots c.fill_default.new.slots);
      slot_rule = rule_freed g.S.Item.Default.is_default _ _ _ _ (n - m) (grind (arith, common_steps)) (made.0, made.1, rw (g.S.Slots.slots_written, c.to_len.ensures.number, made.2, c.as_slice_mut.ensures.value) behind);
      fits = search rules;
    }
