-- What a contract sees of a vector over slots.
use Rattle.std.specs.Prelude.{◌≡◌, ℕ, List, length}
use Rattle.tinyvec_slots.specs.Slots.{Slots, Vacates, items_in, spare_in}
use Rattle.tinyvec_array.specs.declared.slots.Slots as Storage
use Rattle.tinyvec_array.specs.declared.array_vec.ArrayVec.{ArrayVec}
use Rattle.tinyvec_array.specs.declared.bound.UpTo.{UpTo}

-- The words of generic code, over what the trait says of the slots.
module _ {S T L : Type 0} (g : Storage.Ghosts S T L) where
  -- the slots, and how many of them hold the list
  abbrev pub view_of : ArrayVec S L → Slots T
  view_of v = record { slots = g.slots v.slots; len = g.count v.len }

  -- the list and the spare slots, one after the other
  abbrev pub slots_of : ArrayVec S L → List T
  slots_of v = g.slots v.slots

  -- of lent slots, the ghost name of the reference to them
  abbrev pub name_of : ArrayVec S L → g.Name
  name_of v = g.name v.slots

  -- new is over the slots that old was lent, and there are as many
  pub record SameLender (old new : ArrayVec S L) : Type 0 where
    pub same_reference : name_of new ≡ name_of old
    pub slot_count : length (slots_of new) ≡ length (slots_of old)

  -- the n vacated slots hold defaults, and precede the old spare slots
  abbrev pub VacatesOf : (T → Type 0) → ℕ → ArrayVec S L → ArrayVec S L → Type 0
  VacatesOf D n old new = Vacates D n (view_of old) (view_of new)

-- The same words of a vector in an array.
module _ {T : Type 0} {n : ℕ} where
  -- the slots, and how many of them hold the list
  abbrev pub array_view : ArrayVec (List T) (UpTo n) → Slots T
  array_view v = record { slots = v.slots; len = v.len.len }

  -- the list
  abbrev pub items : ArrayVec (List T) (UpTo n) → List T
  items v = items_in (array_view v)

  -- the spare slots after it
  abbrev pub spare : ArrayVec (List T) (UpTo n) → List T
  spare v = spare_in (array_view v)

  -- the length of the list
  abbrev pub items_len : ArrayVec (List T) (UpTo n) → ℕ
  items_len v = length (items v)

  -- the list, then the spare slots
  abbrev pub all_slots : ArrayVec (List T) (UpTo n) → List T
  all_slots v = v.slots
