use Rattle.std.proofs.Common.{◌≡◌, [], refl, length, ap, ◌∙◌, arith, length-append}
use Rattle.tinyvec_slots.specs.Slots.{items_in, spare_in}
use Rattle.tinyvec_array.specs.SliceParts.{with_front}
use Rattle.tinyvec_array.specs.View.{view}
use Rattle.tinyvec_array.specs.ViewLaws.{one_place, becomes}
use Rattle.tinyvec_array.proofs.RuleLemmas.{rule_freed}
use Rattle.tinyvec_array.proofs.ViewLemmas.{slots_of-written, parts_of}
use Rattle.tinyvec_array.proofs.array_vec.extending.ArrayVec+S.append.Goals as goal

pub returns-clause-emptied : goal.returns-clause-emptied
returns-clause-emptied g c =
    let other = c.args.other.now in
    let left = c.put_taken.new.from in
    let made = c.put_taken.ensures.left in
    let long : length c.as_mut_slice.result.now ≡ length (view g.S.Slots other).items = ap length c.as_mut_slice.ensures.value in
    let written = slots_of-written g.S.Slots other left (made.0 ∙ long) in
    let count = ap length written ∙ length-append left (view g.S.Slots other).spare in
    let empty = ap (λ v. items_in v) c.set_len.ensures.value in
    let place = one_place refl (omega (arith, c.set_len.ensures.lender.slot_count, count, parts_of g.S.Slots other, made.0, long))
    (c.set_len.ensures.lender.same_reference ∙ g.S.Slots.name_kept other.slots (with_front (g.S.Slots.slots other.slots) (length (view g.S.Slots other).items) left)) in
    becomes g.S.Slots g.S.Item.Default.is_default other c.set_len.new.self place
    (rule_freed g.S.Item.Default.is_default (view g.S.Slots other).items (view g.S.Slots c.set_len.new.self).items _ _ (length left) (omega (arith, made.0, long, ap length empty)) (left, (refl, made.1), ap (λ v. spare_in v) c.set_len.ensures.value ∙ written)) [] empty
