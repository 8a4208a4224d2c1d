-- Examples of a `SliceVec` v over the slots `[1, 2, 0]`, whose list is `[1, 2]`, and of a generic one.
use Rattle.std.proofs.Common.{◌≡◌, ℕ, List, [], ◌∷◌, refl}
use Rattle.std.specs.Borrow.{MutBor}
use Rattle.tinyvec_array.specs.declared.slots.Slots as Storage
use Rattle.tinyvec_array.specs.declared.array_vec.ArrayVec.{ArrayVec}
use Rattle.tinyvec_array.specs.ArrayVec.{view_of, slots_of, name_of, SameLender}
use Rattle.tinyvec_array.specs.SliceVec.{slice_view, slice_items, slice_spare, slice_slots, slice_name}
use Rattle.tinyvec_array.specs.CutLaws.{CutOf}
use Rattle.tinyvec_examples.proofs.words.Shown.{D, over}

module _ (v : ArrayVec (MutBor (List ℕ)) ℕ) (lent : v.slots.now ≡ 1 ∷ 2 ∷ 0 ∷ []) (len : v.len ≡ 2) where
  pub example-slice_view : slice_view v ≡ over (1 ∷ 2 ∷ []) (0 ∷ [])
  example-slice_view = rw (lent, len) refl

  pub example-slice_items : slice_items v ≡ 1 ∷ 2 ∷ []
  example-slice_items = rw (lent, len) refl

  pub example-slice_spare : slice_spare v ≡ 0 ∷ []
  example-slice_spare = rw (lent, len) refl

  pub example-slice_slots : slice_slots v ≡ 1 ∷ 2 ∷ 0 ∷ []
  example-slice_slots = lent

  pub example-slice_name : slice_name v ≡ v.slots.ghost_name
  example-slice_name = refl

module _ {B L : Type 0} (g : Storage.Ghosts B ℕ L) (v : ArrayVec B L) (lent : g.slots v.slots ≡ 1 ∷ 2 ∷ 0 ∷ []) (len : g.count v.len ≡ 2) where
  pub example-view_of : view_of g v ≡ over (1 ∷ 2 ∷ []) (0 ∷ [])
  example-view_of = rw (lent, len) refl

  pub example-slots_of : slots_of g v ≡ 1 ∷ 2 ∷ 0 ∷ []
  example-slots_of = lent

  pub example-name_of : name_of g v ≡ g.name v.slots
  example-name_of = refl

  pub example-SameLender : SameLender g v v
  example-SameLender = record { same_reference = refl; slot_count = refl }

  pub example-CutOf : (w : ArrayVec B L) → CutOf g D v w → name_of g w ≡ name_of g v
  example-CutOf w h = h.0
