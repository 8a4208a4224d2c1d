use Rattle.std.proofs.Common.{◌≡◌, [], length, refl, ap, ◌∙◌, arith, rules, length-append}
use Rattle.tinyvec_slots.specs.Slots.{items_in, spare_in}
use Rattle.tinyvec_array.specs.ArrayVec.{SameLender}
use Rattle.tinyvec_array.specs.View.{view}
use Rattle.tinyvec_array.specs.ViewLaws.{becomes, same_place}
use Rattle.tinyvec_array.proofs.RuleLemmas.{rule_freed}
use Rattle.tinyvec_array.proofs.ViewLemmas.{slots_of-written, parts_of}
use Rattle.tinyvec_array.proofs.drain.ArrayVec+S.drain_to_vec_and_reserve.Goals as goal

pub returns-clause-drained : goal.returns-clause-drained
returns-clause-drained g c =
    let v = c.args.self.now in
    let left = c.take_all.new.slots in
    let taken = c.take_all.ensures.emptied in
    let long : length c.as_mut_slice.result.now ≡ length (view g.S.Slots v).items = ap length c.as_mut_slice.ensures.value in
    let written = slots_of-written g.S.Slots v left (taken.0 ∙ long) in
    let count = ap length written ∙ length-append left (view g.S.Slots v).spare in
    let lender : SameLender g.S.Slots v c.set_len.new.self =
    record { same_reference = search rules; slot_count = omega (arith, c.set_len.ensures.lender.slot_count, count, parts_of g.S.Slots v, taken.0, long) } in
    let empty = ap items_in c.set_len.ensures.value in
    record {
      moved = search rules;
      exact = search rules;
      emptied = becomes g.S.Slots g.S.Item.Default.is_default v c.set_len.new.self (same_place g.S.Slots v c.set_len.new.self lender)
          (rule_freed g.S.Item.Default.is_default (view g.S.Slots v).items (view g.S.Slots c.set_len.new.self).items _ _ (length left) (omega (arith, taken.0, long, ap length empty)) (left, (refl, taken.1), ap spare_in c.set_len.ensures.value ∙ written)) [] empty;
      refused = tt;
      succeeds_empty = λ none. refl;
    }
