-- What a `TinyVec` is after a borrow of its items.
use Rattle.std.specs.Prelude.{length}
use Rattle.std.specs.Prelude.{◌≡◌, ℕ, List, ◌+◌, slice_set, Result}
use Rattle.std.specs.Borrow.{Lends, LendsSoOk, Fml, RattleType, MutBor, Array}
use Rattle.std.specs.Vec as vec
use Rattle.tinyvec_array.specs.ArrayVec.{slots_of}
use Rattle.tinyvec_array.specs.Lends.{at_slots, with_items_of}
use Rattle.tinyvec_array.specs.declared.slots.Slots as Storage
use Rattle.tinyvec.specs.View.{BecomesIn, Doubled, place_for}
use Rattle.tinyvec.specs.TinyVec.{view}
use Rattle.tinyvec.specs.declared.tiny_vec.TinyVec.{TinyVec}
use Rattle.tinyvec.specs.declared.tiny_vec.TinyVec.TheVariants.{Inline, Heap}
use Rattle.tinyvec.specs.contracts.tiny_vec.TinyVec.{the_row}

-- v after its items were written as a slice, which keeps its length
abbrev pub tiny_with_items : {A T L : Type 0} → Storage.Ghosts A T L → TinyVec A T L → List T → TinyVec A T L
tiny_with_items g (Inline v alloc) xs = Inline (with_items_of g v xs) alloc
tiny_with_items g (Heap v) xs = Heap (vec.with_items v xs)

-- v with its item i set to x
abbrev pub tiny_with_item : {A T L : Type 0} → Storage.Ghosts A T L → TinyVec A T L → ℕ → T → TinyVec A T L
tiny_with_item g (Inline v alloc) i x = Inline (at_slots g v (slice_set (slots_of g v) i x)) alloc
tiny_with_item g (Heap v) i x = Heap (vec.with_item v i x)

module _ (A L I : RattleType) (g : Storage.Ghosts A.Denot I.Denot L.Denot) (v : MutBor (TinyVec A.Denot I.Denot L.Denot)) where
  -- once the borrow r ends, the items are those that r shows last
  abbrev pub lends_items : MutBor (List I.Denot) → Fml
  lends_items r = Lends (the_row A I L) (Array I 0) v r (tiny_with_items g v.now)

  -- once the borrow r ends, item i is what r shows last
  abbrev pub lends_item : ℕ → MutBor I.Denot → Fml
  lends_item i r = Lends (the_row A I L) I v r (tiny_with_item g v.now i)

  -- r is a new item: once its borrow ends, the list is `with` of what r shows last, and room was made as by `push`. At `Err` nothing
  -- changes.
  abbrev pub lends_added : {E : Type 0} → (I.Denot → Type 0) → (I.Denot → List I.Denot) → Result (MutBor I.Denot) E → Fml
  lends_added D with r = LendsSoOk (the_row A I L) I v r
      (λ n x. BecomesIn D (view g v.now) (view g n) (with x) (place_for Doubled (length (view g v.now).items + 1) (view g v.now).place))
      (λ n. view g n ≡ view g v.now)
