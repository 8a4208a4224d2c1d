-- What a vector in the slots `[1, 2, 0]`, whose list is `[1, 2]`, is once a loan ended: its slots, or those of its owner.
use Rattle.std.proofs.Common.{◌≡◌, ℕ, List, [], ◌∷◌, ◌++◌, drop, insert, slice_set, refl}
use Rattle.tinyvec_array.specs.SliceParts.{with_front, with_back}
use Rattle.tinyvec_array.specs.Lends.{at_slots, with_items_of}
use Rattle.tinyvec_array.specs.ArrayVec.{slots_of}
use Rattle.tinyvec_array.specs.View.{view}
use Rattle.tinyvec_array.specs.CutLaws.{written_of}
use Rattle.tinyvec_array.specs.declared.slots.Slots as Storage
use Rattle.tinyvec_array.specs.declared.array_vec.ArrayVec.{ArrayVec}
use Rattle.tinyvec_examples.proofs.words.Shown.{nums}

-- of tinyvec_array.specs.Lends: `[1, 2, 0]` lent by `lends_items`, by a reference that shows `[3, 4]` last
pub example-lends_items : with_front (nums (1 ∷ 2 ∷ 0 ∷ [])) 2 (3 ∷ 4 ∷ []) ≡ 3 ∷ 4 ∷ 0 ∷ []
example-lends_items = refl

-- of tinyvec_array.specs.IterMut: `[1, 2, 0]` lent by `lends_iter`, to a loop that leaves `[3, 4]`
pub example-lends_iter : with_front (nums (1 ∷ 2 ∷ 0 ∷ [])) 2 (3 ∷ 4 ∷ []) ≡ 3 ∷ 4 ∷ 0 ∷ []
example-lends_iter = refl

-- of tinyvec_array.specs.Lends: `[1, 2, 0]` lent by `lends_spare`, by a reference that shows `[7]` last
pub example-lends_spare : with_back (nums (1 ∷ 2 ∷ 0 ∷ [])) 2 (7 ∷ []) ≡ 1 ∷ 2 ∷ 7 ∷ []
example-lends_spare = refl

-- of tinyvec_array.specs.Lends: `[1, 2, 0]` lent by `lends_item` at 1, by a reference that shows 7 last
pub example-lends_item : slice_set (nums (1 ∷ 2 ∷ 0 ∷ [])) 1 7 ≡ 1 ∷ 7 ∷ 0 ∷ []
example-lends_item = refl

-- of tinyvec_array.specs.Lends: `[1, 2, 0]` lent by `lends_pushed`, by a reference that shows 7 last
pub example-lends_pushed : slice_set (nums (1 ∷ 2 ∷ 0 ∷ [])) 2 7 ≡ 1 ∷ 2 ∷ 7 ∷ []
example-lends_pushed = refl

-- of tinyvec_array.specs.Lends: `[1, 2, 0]` lent by `lends_inserted` at 1, by a reference that shows 7 last
pub example-lends_inserted : insert (nums (1 ∷ 2 ∷ [])) 1 7 ++ drop 1 (0 ∷ []) ≡ 1 ∷ 7 ∷ 2 ∷ []
example-lends_inserted = refl

-- of tinyvec_array.specs.Making: an array lent by `lends_array`, to a vector that shows `[3, 4]` last
pub example-lends_array : nums (3 ∷ 4 ∷ []) ≡ 3 ∷ 4 ∷ []
example-lends_array = refl

module _ {S L : Type 0} (g : Storage.Ghosts S ℕ L) (v : ArrayVec S L) where
  -- of tinyvec_array.specs.Lends: a vector lent by `lends_inner`, by slots that show `ws` last
  pub example-lends_inner : (ws : List ℕ) → slots_of g (at_slots g v ws) ≡ ws
  example-lends_inner ws = g.slots_written v.slots ws

  -- of tinyvec_array.specs.Lends: a vector lent by `lends_array_of`, by an array that shows `a` last
  pub example-lends_array_of : (a : S) → slots_of g (record v { slots = a }) ≡ g.slots a
  example-lends_array_of a = refl

  pub example-with_items_of : (view g v).items ≡ 1 ∷ 2 ∷ [] → (view g (with_items_of g v (3 ∷ 4 ∷ []))).items ≡ 3 ∷ 4 ∷ []
  example-with_items_of list = (written_of g v (3 ∷ 4 ∷ []) (rw (list) refl)).0
