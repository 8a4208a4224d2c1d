-- Examples of an `ArrayVec` v over the slots `[1, 2, 0]` of an array, whose list is `[1, 2]`.
use Rattle.std.proofs.Common.{◌≡◌, ℕ, List, [], ◌∷◌, Ok, Vec, Global, vec_items, refl}
use Rattle.tinyvec_array.specs.ArrayVec.{array_view, items, spare, items_len}
use Rattle.tinyvec_array.specs.ToVec.{DrainsToVec}
use Rattle.tinyvec_array.proofs.Named.{array_slots}
use Rattle.tinyvec_array.specs.declared.array_vec.ArrayVec.{ArrayVec}
use Rattle.tinyvec_array.specs.declared.bound.UpTo.{UpTo}
use Rattle.tinyvec_examples.proofs.words.Shown.{D, over, array_over}

module _ (v : ArrayVec (List ℕ) (UpTo 3)) (array : v.slots ≡ 1 ∷ 2 ∷ 0 ∷ []) (len : v.len.len ≡ 2) where
  pub example-array_view : array_view v ≡ over (1 ∷ 2 ∷ []) (0 ∷ [])
  example-array_view = rw (array, len) refl

  pub example-items : items v ≡ 1 ∷ 2 ∷ []
  example-items = rw (array, len) refl

  pub example-spare : spare v ≡ 0 ∷ []
  example-spare = rw (array, len) refl

  pub example-items_len : items_len v ≡ 2
  example-items_len = rw (array, len) refl

pub example-DrainsToVec : (v : Vec ℕ Global) (new : ArrayVec (List ℕ) (UpTo 5)) → DrainsToVec {E = ℕ} (array_slots 5) D 2 (array_over (1 ∷ 2 ∷ []) (0 ∷ 0 ∷ 0 ∷ [])) new (Ok v) → vec_items v ≡ 1 ∷ 2 ∷ []
example-DrainsToVec v new h = h.moved
