-- What a vector over slots is after a borrow of its items.
use Rattle.std.specs.Prelude.{ℕ, ◌+◌, ◌++◌, List, length, drop, insert, slice_set}
use Rattle.std.specs.Borrow.{Lends, Fml, MutBor, RattleType, Array}
use Rattle.tinyvec_array.specs.SliceParts.{with_front, with_back}
use Rattle.tinyvec_array.specs.View.{view}
use Rattle.tinyvec_array.specs.declared.slots.Slots as Storage
use Rattle.tinyvec_array.specs.declared.array_vec.ArrayVec.{ArrayVec}
use Rattle.tinyvec_array.specs.contracts.array_vec.ArrayVec.{the_row}

-- v if its slots hold xs
abbrev pub at_slots : {S T L : Type 0} → Storage.Ghosts S T L → ArrayVec S L → List T → ArrayVec S L
at_slots g v xs = record v { slots = g.with_slots v.slots xs }

-- v once its list was written as a slice, which keeps its length
abbrev pub with_items_of : {S T L : Type 0} → Storage.Ghosts S T L → ArrayVec S L → List T → ArrayVec S L
with_items_of g v ws = at_slots g v (with_front (g.slots v.slots) (length (view g v).items) ws)

-- v once x was inserted at i, which uses up a spare slot
abbrev pub inserted_at : {S T L : Type 0} → Storage.Ghosts S T L → ArrayVec S L → ℕ → T → ArrayVec S L
inserted_at g v i x = record {
  slots = g.with_slots v.slots (insert (view g v).items i x ++ drop 1 (view g v).spare);
  len = g.of_count (length (view g v).items + 1);
}

module _ (S L I : RattleType) (g : Storage.Ghosts S.Denot I.Denot L.Denot) (v : MutBor (ArrayVec S.Denot L.Denot)) where
  -- once the borrow r ends, the items are those that r shows last
  abbrev pub lends_items : MutBor (List I.Denot) → Fml
  lends_items r = Lends (the_row S L) (Array I 0) v r (with_items_of g v.now)

  -- once the borrow r ends, the spare slots are those that r shows last
  abbrev pub lends_spare : MutBor (List I.Denot) → Fml
  lends_spare r = Lends (the_row S L) (Array I 0) v r (λ ws. at_slots g v.now (with_back (g.slots v.now.slots) (length (view g v.now).items) ws))

  -- once the borrow r ends, slot i is what r shows last
  abbrev pub lends_item : ℕ → MutBor I.Denot → Fml
  lends_item i r = Lends (the_row S L) I v r (λ x. at_slots g v.now (slice_set (g.slots v.now.slots) i x))

  -- once the borrow r ends, the first spare slot is what r shows last, and belongs to the list
  abbrev pub lends_pushed : MutBor I.Denot → Fml
  lends_pushed r = Lends (the_row S L) I v r
      (λ x. record { slots = g.with_slots v.now.slots (slice_set (g.slots v.now.slots) (length (view g v.now).items) x); len = g.of_count (length (view g v.now).items + 1) })

  -- once the borrow r ends, the item that r shows last was inserted at i
  abbrev pub lends_inserted : ℕ → MutBor I.Denot → Fml
  lends_inserted i r = Lends (the_row S L) I v r (inserted_at g v.now i)

  -- once the borrow r ends, the slots are those that r shows last
  abbrev pub lends_inner : MutBor (List I.Denot) → Fml
  lends_inner r = Lends (the_row S L) (Array I 0) v r (at_slots g v.now)

-- once the borrow r ends, the vector is over the array or the lent slice that r shows last
abbrev pub lends_array_of : (A L : RattleType) → MutBor (ArrayVec A.Denot L.Denot) → MutBor A.Denot → Fml
lends_array_of A L v r = Lends (the_row A L) A v r (λ a. record v.now { slots = a })
