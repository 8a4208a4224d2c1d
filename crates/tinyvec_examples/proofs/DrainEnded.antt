-- What the slots of numbers are once a drain of their vector ended.
use Rattle.std.proofs.Common.{◌≡◌, ◌+◌, ℤ, pos, List, [], ◌∷◌, ◌++◌, length, take, drop, refl, sym, ap, ◌∙◌}
use Rattle.tinyvec_slots.specs.Slots.{split_at, items_in, spare_in}
use Rattle.tinyvec_slots.proofs.SlotsLemmas.{freed, slots_are}
use Rattle.tinyvec_array.specs.ArrayVec.{array_view, items, spare, all_slots}
use Rattle.tinyvec_array.specs.View.{Becomes, view}
use Rattle.tinyvec_array.specs.ViewLaws.{freed_by}
use Rattle.tinyvec_array.specs.declared.bound.UpTo.{UpTo}
use Rattle.tinyvec_array.specs.declared.array_vec.ArrayVec.{ArrayVec}
use Rattle.tinyvec_array.proofs.Named.{array_slots}

-- a drain of the second and third of four numbers, in an array of four
pub middle_left : (old new : ArrayVec (List ℤ) (UpTo 4)) → array_view old ≡ split_at 4 (pos 1 ∷ pos 2 ∷ pos 3 ∷ pos 4 ∷ [])
    → Becomes (λ x. x ≡ pos 0) (view (array_slots 4) old) (view (array_slots 4) new) (take 1 (items old) ++ drop 3 (items old))
    → all_slots new ≡ pos 1 ∷ pos 4 ∷ pos 0 ∷ pos 0 ∷ []
middle_left old new is lost =
    let list : items new ≡ pos 1 ∷ pos 4 ∷ [] = lost.items ∙ ap (λ s. take 1 (items_in s) ++ drop 3 (items_in s)) is in
    let none : spare old ≡ [] = ap (λ s. spare_in s) is in
    let fewer : length (items old) ≡ length (items new) + 2 = ap (λ s. length (items_in s)) is ∙ ap (λ l. length l + 2) (sym list) in
    let behind : spare new ≡ pos 0 ∷ pos 0 ∷ [] = freed _ (pos 0) (λ x h. h) 2 (array_view old) (array_view new) (freed_by (λ x. x ≡ pos 0) _ _ _ _ 2 fewer (lost.slot_rule)) ∙ rw none refl in
    slots_are (array_view new) ∙ rw (list, behind) refl
