use Rattle.std.proofs.Common.{◌≡◌, ◌+◌, ◌++◌, length, take, drop, refl, sym, ap, ◌∙◌, length-append, take_at, drop_at, drop-drop}
use Rattle.tinyvec_slots.specs.Slots.{items_in, spare_in}
use Rattle.tinyvec_slots.proofs.BorderLemmas.{spare_from}
use Rattle.tinyvec_array.specs.ArrayVec.{slots_of}
use Rattle.tinyvec_array.specs.View.{view, NothingVacated}
use Rattle.tinyvec_array.specs.ViewLaws.{one_place, becomes}
use Rattle.tinyvec_array.proofs.RuleLemmas.{rule_used}
use Rattle.tinyvec_array.specs.PutLaws.{puts_room_of}
use Rattle.tinyvec_array.proofs.can_put.ArrayVecCanPut.keep.Goals as goal

pub returns : goal.returns
returns g c v xs put at room =
    let n = c.args.n in
    let new = c.set_len.new.self in
    let list = (view g.S.Slots v).items in
    let slots = slots_of g.S.Slots v in
    let set = c.set_len.ensures in
    let long : length (list ++ xs) ≡ n = length-append list xs ∙ sym at in
    let listed : (view g.S.Slots new).items ≡ list ++ xs = ap items_in set.value ∙ ap (take n) put.slots ∙ take_at (list ++ xs) (drop (length list + length xs) slots) n long in
    let behind : (view g.S.Slots new).spare ≡ drop (length xs) (view g.S.Slots v).spare =
    ap spare_in set.value ∙ ap (drop n) put.slots ∙ drop_at (list ++ xs) (drop (length list + length xs) slots) n long
    ∙ sym (drop-drop (length xs) (length list) slots) ∙ ap (drop (length xs)) (spare_from (g.S.Slots.count v.len) slots (length list) refl) in
    let place = one_place refl (set.lender.slot_count ∙ puts_room_of g.S.Slots v xs c.args.self.now put) (set.lender.same_reference ∙ put.same_reference) in
    becomes g.S.Slots NothingVacated v new place (rule_used NothingVacated _ _ _ _ (length xs) (ap length listed ∙ length-append list xs) behind) (list ++ xs) listed
