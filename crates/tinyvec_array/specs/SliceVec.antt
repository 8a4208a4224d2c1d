-- What a contract sees of a vector in a lent slice. It has the words of every vector (`ArrayVec.antt`) too.
use Rattle.std.specs.Prelude.{ℕ, List}
use Rattle.std.specs.Borrow.{GName, MutBor}
use Rattle.tinyvec_slots.specs.Slots.{Slots, items_in, spare_in}
use Rattle.tinyvec_array.specs.declared.array_vec.ArrayVec.{ArrayVec}

module _ {T : Type 0} where
  -- the slots, and how many of them hold the list
  abbrev pub slice_view : ArrayVec (MutBor (List T)) ℕ → Slots T
  slice_view v = record { slots = v.slots.now; len = v.len }

  -- the list
  abbrev pub slice_items : ArrayVec (MutBor (List T)) ℕ → List T
  slice_items v = items_in (slice_view v)

  -- the spare slots after it
  abbrev pub slice_spare : ArrayVec (MutBor (List T)) ℕ → List T
  slice_spare v = spare_in (slice_view v)

  -- the list, then the spare slots
  abbrev pub slice_slots : ArrayVec (MutBor (List T)) ℕ → List T
  slice_slots v = v.slots.now

  -- the ghost name of the reference to the slots
  abbrev pub slice_name : ArrayVec (MutBor (List T)) ℕ → GName
  slice_name v = v.slots.ghost_name
