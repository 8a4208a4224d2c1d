use Rattle.std.proofs.Common.{◌≡◌, ◌+◌, ◌-◌, ◌≤◌, ◌++◌, length, take, drop, sym, ap, ◌∙◌, arith, rules, append_assoc, take_at, drop_at, length-append, length-drop, length-take-le}
use Rattle.std.proofs.lemmas.List.{take-take}
use Rattle.std.proofs.lemmas.List.Elements.{All-drop}
use Rattle.tinyvec_slots.specs.Slots.{items_in, spare_in}
use Rattle.tinyvec_slots.proofs.BorderLemmas.{list_to, spare_from}
use Rattle.std.proofs.lemmas.Slice.{between_is}
use Rattle.tinyvec_array.specs.SliceParts.{with_part}
use Rattle.tinyvec_array.proofs.PartLemmas.{with_part-as_long}
use Rattle.tinyvec_array.specs.ArrayVec.{slots_of, SameLender}
use Rattle.tinyvec_array.specs.View.{view, NothingVacated}
use Rattle.tinyvec_array.specs.ViewLaws.{becomes, same_place, used_by}
use Rattle.tinyvec_array.proofs.RuleLemmas.{rule_freed}
use Rattle.tinyvec_array.specs.Lends.{at_slots}
use Rattle.tinyvec_array.proofs.ViewLemmas.{parts_of}
use Rattle.tinyvec_array.proofs.array_vec.in_array.ArrayVec+A.split_off.Goals as goal

pub put_taken-requires : goal.put_taken-requires
put_taken-requires g c =
    let L = (view g.A.Slots c.args.self.now).items in
    let slots = slots_of g.A.Slots c.args.self.now in
    let m = c.args.at in
    let n = c.len-len.result in
    let moved = ap length (c.part_of.ensures.value ∙ between_is slots m n
    ∙ ap (drop m) (list_to (g.A.Slots.count c.args.self.now.len) slots n c.len-len.ensures.value)) ∙ length-drop m L in
    let count = g.met.A.Array.counted _ c.len-len.ensures.slot_count in
    omega (arith, moved, count, c.len-len.ensures.fits, c.len-len.ensures.value, c.new-back.ensures.spare.0, parts_of g.A.Slots c.new-back.result, ap length c.new-back.ensures.items)

pub set_len-requires : goal.set_len-requires
set_len-requires g c =
    let slots = slots_of g.A.Slots c.args.self.now in
    let m = c.args.at in
    let left = c.put_taken.new.from in
    let tail = left ++ drop c.len-len.result slots in
    let n = c.len-len.result in
    let front = length-take-le m slots (omega (arith, c.len-len.ensures.value, c.len-len.ensures.fits, c.requires)) in
    let moved = ap length (c.part_of.ensures.value ∙ between_is slots m n
    ∙ ap (drop m) (list_to (g.A.Slots.count c.args.self.now.len) slots n c.len-len.ensures.value)) ∙ length-drop m (view g.A.Slots c.args.self.now).items in
    let as_long : length left ≡ n - m = omega (arith, c.put_taken.ensures.left.0, moved, c.len-len.ensures.value) in
    let whole : length (slots_of g.A.Slots (at_slots g.A.Slots c.args.self.now (with_part slots m n left))) ≡ length (take m slots) + length tail =
    ap length (g.A.Slots.slots_written c.args.self.now.slots (with_part slots m n left) ∙ sym (with_part-as_long slots left m n as_long) ∙ append_assoc (take m slots) left (drop c.len-len.result slots)) ∙ length-append (take m slots) tail in
    omega (arith, whole, front)

pub returns-clause-becomes : goal.returns-clause-becomes
returns-clause-becomes g c =
    let v = c.args.self.now in
    let L = (view g.A.Slots v).items in
    let slots = slots_of g.A.Slots v in
    let k = g.A.Slots.count v.len in
    let m = c.args.at in
    let n = c.len-len.result in
    let long = c.len-len.ensures.value in
    let within : m ≤ n = omega (arith, long, c.requires) in
    let left = c.put_taken.new.from in
    let made = c.put_taken.ensures.left in
    let tail = left ++ drop n slots in
    let moved = ap length (c.part_of.ensures.value ∙ between_is slots m n ∙ ap (drop m) (list_to k slots n long)) ∙ length-drop m L in
    let front : length (take m slots) ≡ m = length-take-le m slots (omega (arith, within, c.len-len.ensures.fits)) in
    let as_long : length left ≡ n - m = omega (arith, made.0, moved, long) in
    let whole : slots_of g.A.Slots (at_slots g.A.Slots v (with_part slots m n left)) ≡ take m slots ++ tail =
    g.A.Slots.slots_written v.slots (with_part slots m n left) ∙ sym (with_part-as_long slots left m n as_long) ∙ append_assoc (take m slots) left (drop n slots) in
    let count = ap length whole ∙ length-append (take m slots) tail in
    let behind = length-append left (drop n slots) ∙ ap (λ l. length left + length l) (spare_from k slots n long) in
    let first : take m slots ≡ take m L = sym (take-take m n slots within) ∙ ap (take m) (list_to k slots n long) in
    let lender : SameLender g.A.Slots v c.set_len.new.self =
    record { same_reference = search rules; slot_count = omega (arith, c.set_len.ensures.lender.slot_count, count, behind, front, moved, made.0, long, within, parts_of g.A.Slots v) } in
    let listed = ap items_in c.set_len.ensures.value ∙ ap (take m) whole ∙ take_at (take m slots) tail m front ∙ first in
    becomes g.A.Slots g.A.Item.Default.is_default v c.set_len.new.self (same_place g.A.Slots v c.set_len.new.self lender) (rule_freed g.A.Item.Default.is_default _ _ _ _ (length L - m) (omega (arith, ap length listed, length-take-le m L c.requires, c.requires)) (left, (made.0 ∙ moved, made.1), ap spare_in c.set_len.ensures.value ∙ ap (drop m) whole ∙ drop_at (take m slots) tail m front ∙ ap (λ l. left ++ l) (spare_from k slots n long))) _ listed

pub returns-clause-tail : goal.returns-clause-tail
returns-clause-tail g c =
    let v = c.args.self.now in
    let slots = slots_of g.A.Slots v in
    let n = c.len-len.result in
    let long = c.len-len.ensures.value in
    c.put_taken.ensures.becomes.items ∙ ap (λ l. l ++ c.part_of.result.now) c.new-back.ensures.items
    ∙ c.part_of.ensures.value ∙ between_is slots c.args.at n
    ∙ ap (drop c.args.at) (list_to (g.A.Slots.count v.len) slots n long)

pub returns-clause-tail_spare : goal.returns-clause-tail_spare
returns-clause-tail_spare g c =
    let v = c.args.self.now in
    let L = (view g.A.Slots v).items in
    let slots = slots_of g.A.Slots v in
    let m = c.args.at in
    let n = c.len-len.result in
    let long = c.len-len.ensures.value in
    let old = (view g.A.Slots c.new-back.result).spare in
    let fresh = c.new-back.ensures.spare in
    let moved = ap length (c.part_of.ensures.value ∙ between_is slots m n
    ∙ ap (drop m) (list_to (g.A.Slots.count v.len) slots n long)) ∙ length-drop m L in
    let left = length-drop (length c.part_of.result.now) old in
    let more = length-append (view g.A.Slots c.new-back.result).items c.part_of.result.now in
    rw (used_by NothingVacated _ _ _ _ (length c.part_of.result.now) (ap length c.put_taken.ensures.becomes.items ∙ more) (c.put_taken.ensures.becomes.slot_rule)) (omega (arith, left, fresh.0, moved), All-drop g.A.Item.Default.is_default (length c.part_of.result.now) old fresh.1)
