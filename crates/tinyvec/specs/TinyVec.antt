-- What a contract sees of a `TinyVec`: its list, its spare slots and its place.
use Rattle.std.specs.Prelude.{ℕ, List, [], length, take, drop, true, false, vec_capacity, Bool, IsTrue}
use Rattle.std.specs.Global.{Global}
use Rattle.std.specs.Vec.{vec_allocator}
use Rattle.tinyvec_array.specs.declared.slots.Slots as Storage
use Rattle.tinyvec_array.specs.declared.bound.UpTo.{UpTo}
use Rattle.tinyvec.specs.View.{TinyView}
use Rattle.tinyvec.specs.declared.tiny_vec.TinyVec.{TinyVec}
use Rattle.tinyvec.specs.declared.tiny_vec.TinyVec.TheVariants.{Inline, Heap}

-- `v.allocator()`
abbrev pub tiny_allocator : {A T L : Type 0} → TinyVec A T L → Global
tiny_allocator (Inline v alloc) = alloc
tiny_allocator (Heap v) = vec_allocator v

-- What calls see of a vector, by how long a list in slots is and what slots hold: each word takes the vector first and these as functions,
-- so that a goal at a named array shows just the vector and `(λ n. n.len) (λ a. a)`.
module _ {A T L : Type 0} where
  -- the list
  abbrev pub items_by : TinyVec A T L → (L → ℕ) → (A → List T) → List T
  items_by t count slots = elim t [ Inline v alloc ↦ take (count v.len) (slots v.slots) | Heap v ↦ v.items ]

  -- the spare slots after it, of which there are none on the heap
  abbrev pub spare_by : TinyVec A T L → (L → ℕ) → (A → List T) → List T
  spare_by t count slots = elim t [ Inline v alloc ↦ drop (count v.len) (slots v.slots) | Heap v ↦ [] ]

  -- whether the list is in the array
  abbrev pub inline_by : TinyVec A T L → Bool
  inline_by (Inline v alloc) = true
  inline_by (Heap v) = false

  -- how many items fit there
  abbrev pub capacity_by : TinyVec A T L → (A → List T) → ℕ
  capacity_by t slots = elim t [ Inline v alloc ↦ length (slots v.slots) | Heap v ↦ vec_capacity v ]

-- What calls see of a vector: the list, the spare slots after it, and its place, over what the trait says of the slots.
abbrev pub view : {A T L : Type 0} → Storage.Ghosts A T L → TinyVec A T L → TinyView T
view g v = record {
  items = items_by v g.count g.slots;
  spare = spare_by v g.count g.slots;
  place = record { inline = inline_by v; capacity = capacity_by v g.slots; lender = tt };
}

-- the words of a caller that names its array, as `TinyVec<[u8; 8]>`
module _ {T : Type 0} {n : ℕ} where
  -- the list
  abbrev pub tiny_items : TinyVec (List T) T (UpTo n) → List T
  tiny_items (Inline v alloc) = take v.len.len v.slots
  tiny_items (Heap v) = v.items

  -- its length
  abbrev pub tiny_len : TinyVec (List T) T (UpTo n) → ℕ
  tiny_len v = length (tiny_items v)

  -- the spare slots after it
  abbrev pub tiny_spare : TinyVec (List T) T (UpTo n) → List T
  tiny_spare (Inline v alloc) = drop v.len.len v.slots
  tiny_spare (Heap v) = []

  -- `v.capacity()`
  abbrev pub tiny_capacity : TinyVec (List T) T (UpTo n) → ℕ
  tiny_capacity (Inline v alloc) = length v.slots
  tiny_capacity (Heap v) = vec_capacity v

  -- `v.is_inline()`
  abbrev pub is_inline : TinyVec (List T) T (UpTo n) → Bool
  is_inline v = inline_by v

  -- the list is in the array
  abbrev pub IsInline : TinyVec (List T) T (UpTo n) → Type 0
  IsInline v = IsTrue (inline_by v)

  -- list, spare slots and place
  abbrev pub tiny_view : TinyVec (List T) T (UpTo n) → TinyView T
  tiny_view v = record {
    items = tiny_items v;
    spare = tiny_spare v;
    place = record { inline = is_inline v; capacity = tiny_capacity v; lender = tt };
  }
