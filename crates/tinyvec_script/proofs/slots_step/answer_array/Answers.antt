use Rattle.std.proofs.Common.{refl, subst, ◌<◌, ◌≤◌, ◌++◌, length, ap, ◌∙◌, arith, rules, length-append}
use Rattle.std.proofs.lemmas.Grind.{common_steps}
use Rattle.std.specs.declared.ops.Bound.TheVariants.{Included, Excluded}
use Rattle.tinyvec_slots.specs.Slots.{items_in, spare_in, len_in, all_slots, SlotRule}
use Rattle.tinyvec_slots.specs.Ranges.{items_within}
use Rattle.tinyvec_script.specs.Driving.{ListSplices, DrivenSplices}
use Rattle.tinyvec_script.specs.Step.{ArrayStep}
use Rattle.tinyvec_script.specs.declared.call.Call.TheVariants.{Splice}
use Rattle.tinyvec_script.proofs.DrivingLemmas.{splice_answers}
use Rattle.tinyvec_slots.proofs.SlotsLemmas.{slots_are}
use Rattle.tinyvec_array.specs.ArrayVec.{view_of}
use Rattle.tinyvec_array.proofs.RuleLemmas.{none_vacated}
use Rattle.std.proofs.lemmas.Option.{slice_get_read}
use Rattle.tinyvec_script.proofs.slots_step.answer_array.Goals as goal

pub returns-in-Push-clause-step : goal.returns-in-Push-clause-step
returns-in-Push-clause-step g c =
    let old = view_of g.S.Slots c.args.vec.now in
    let some : 0 < length (spare_in old) = search rules in
    let whole = ap length (slots_are old) ∙ length-append (items_in old) (spare_in old) in
    let made = none_vacated g.S.Item.Default.is_default c.push.ensures in
    rw c.in-Push.is (omega (arith, some, whole), made.items, made.slot_rule)

pub returns-in-Insert-clause-step : goal.returns-in-Insert-clause-step
returns-in-Insert-clause-step g c =
    let old = view_of g.S.Slots c.args.vec.now in
    let some : 0 < length (spare_in old) = search rules in
    let whole = ap length (slots_are old) ∙ length-append (items_in old) (spare_in old) in
    let made = none_vacated g.S.Item.Default.is_default c.insert.ensures in
    let in_list : c.in-Insert.i ≤ len_in old = omega (arith, c.len.ensures.value) in
    rw c.in-Insert.is (in_list, omega (arith, some, whole), made.items, made.slot_rule)

pub returns-in-Remove-clause-step : goal.returns-in-Remove-clause-step
returns-in-Remove-clause-step g c =
    let old = view_of g.S.Slots c.args.vec.now in
    let made = c.remove.ensures in
    let in_list : c.in-Remove.i < len_in old = omega (arith, c.len-in-Remove.ensures.value) in
    rw c.in-Remove.is (slice_get_read (items_in old) _ c.in-Remove.i _ refl in_list made.value, made.becomes.items, made.becomes.slot_rule)

pub returns-in-SwapRemove-clause-step : goal.returns-in-SwapRemove-clause-step
returns-in-SwapRemove-clause-step g c =
    let old = view_of g.S.Slots c.args.vec.now in
    let made = c.swap_remove.ensures in
    let in_list : c.in-SwapRemove.i < len_in old = omega (arith, c.len-in-SwapRemove.ensures.value) in
    rw c.in-SwapRemove.is (slice_get_read (items_in old) _ c.in-SwapRemove.i _ refl in_list made.value, made.becomes.items, made.becomes.slot_rule)

pub returns-in-Drain-clause-step : goal.returns-in-Drain-clause-step
returns-in-Drain-clause-step g c =
    let old = view_of g.S.Slots c.args.vec.now in
    let i = c.in-Drain.start in
    let j = c.in-Drain.end in
    let left = c.drain_into.ensures in
    let in_order : i ≤ j = omega arith in
    let in_list : j ≤ len_in old = omega arith in
    let taken = left.moved ∙ ap (λ xs. xs ++ items_within (items_in old) (Included i) (Excluded j)) c.in-Ok.ensures.items in
    rw c.in-Drain.is ((in_order, in_list), record { given_are = taken; items_are = left.becomes.items }, left.becomes.slot_rule)

pub returns-then-is_full-clause-step : goal.returns-then-is_full-clause-step
returns-then-is_full-clause-step g c = grind (arith, common_steps)

pub returns-then-is_full-2-clause-step : goal.returns-then-is_full-2-clause-step
returns-then-is_full-2-clause-step g c = grind (arith, common_steps)

pub returns-in-Truncate-clause-step : goal.returns-in-Truncate-clause-step
returns-in-Truncate-clause-step g c =
    let made = c.truncate.ensures in
    rw c.in-Truncate.is (made.items, made.slot_rule)

pub drain_into-requires-clause-room : goal.drain_into-requires-clause-room
drain_into-requires-clause-room g c = grind (arith, common_steps)

pub returns-in-Ok-drive_splice-clause-step : goal.returns-in-Ok-drive_splice-clause-step
returns-in-Ok-drive_splice-clause-step g c =
    let D = g.S.Item.Default.is_default in
    let old = view_of g.S.Slots c.args.vec.now in
    let capacity = length (all_slots old) in
    let new = view_of g.S.Slots c.drive_splice.new.vec in
    let start = c.in-Splice.start in
    let end = c.in-Splice.end in
    let word = c.in-Splice.word in
    let replacement = c.in-Splice.replacement in
    let in_order : start ≤ end = omega arith in
    let in_list : end ≤ len_in old = omega arith in
    let answered = c.answer_driven.ensures in
    let driven = c.in-Ok-drive_splice.driven in
    let made = rw c.as_slice.ensures.value at c.in-Ok-drive_splice.ensures.splices in
    let same = ap (λ p. p.capacity) made.grown.place in
    let did : DrivenSplices items_in (SlotRule D) capacity old start end word.items replacement.items driven.yields.items driven.rest.items new = record {
      list = subst (λ n. ListSplices n (items_in old) start end word.items replacement.items driven.yields.items driven.rest.items (items_in new)) same made.list;
      grown = made.grown.slot_rule;
      no_shorter = λ over. made.no_shorter (omega (arith, same, over));
    } in
    rw c.in-Splice.is (splice_answers capacity (items_in old) (items_in new) start end word.items replacement.items driven.yields driven.rest c.answer_driven.result
    in_order in_list answered.items answered.spliced did.list
    (λ yields rest. DrivenSplices items_in (SlotRule D) capacity old start end word.items replacement.items yields rest new) did
    (λ answer. ArrayStep D capacity old (Splice start end word replacement) answer new)
    (λ fits all. ((in_order, in_list), (fits, all))) (λ over some. ((in_order, in_list), (over, some))))
