-- Growth, reserving room, and moves to the heap. A call and its `try_` form have one word.
use Rattle.std.specs.Prelude.{◌≡◌, ℕ, ◌+◌, ◌-◌, ◌≤◌, ◌↔◌, max, List, length, IsTrue, if◌then◌else◌, Result, IsOk, OnOk, OnErr}
use Rattle.tinyvec_slots.specs.Slots.{AreDefaults}
use Rattle.tinyvec_array.specs.declared.slots.Slots as Storage
use Rattle.tinyvec.specs.View.{TinyView, in_array, Growth, BecomesIn, heap_for, place_for, place_pushed}
use Rattle.tinyvec.specs.TinyVec.{view}
use Rattle.tinyvec.specs.declared.tiny_vec.TinyVec.{TinyVec}

module _ {T : Type 0} where
  -- a call that pushes item by item took `old` to `new`
  abbrev pub GrowsByPushes : (T → Type 0) → TinyView T → TinyView T → Type 0
  GrowsByPushes D old new = BecomesIn D old new new.items (place_pushed (length new.items) old.place)

  -- `v` was made for n items. It is inline if they fit the array, and defaults follow the `used` items of its list. On the heap it
  -- has room for exactly n.
  pub record MadeFor (D : T → Type 0) (slots n used : ℕ) (v : TinyView T) : Type 0 where
    pub spare : IsTrue v.place.inline → AreDefaults D (slots - used) v.spare
    pub place : IsTrue v.place.inline ↔ (n ≤ slots)
    pub enough : n ≤ v.place.capacity
    pub exact : v.place.capacity ≡ max n slots

  -- `v` is what collecting `xs` makes, item by item; inline before defaults
  pub record IsCollected (D : T → Type 0) (slots : ℕ) (xs : List T) (v : TinyView T) : Type 0 where
    pub items : v.items ≡ xs
    pub place : v.place ≡ place_pushed (length xs) (in_array slots)
    pub spare : IsTrue v.place.inline → AreDefaults D (slots - length xs) v.spare
    pub fits : length xs ≤ v.place.capacity

module _ {T X E : Type 0} where
  -- A move to the heap took `old` to `new`, with this result, and made room there for n more items. A failure changes nothing.
  pub record MovesToHeap (D : T → Type 0) (n : ℕ) (old new : TinyView T) (result : Result X E) : Type 0 where
    pub ok : OnOk result (BecomesIn D old new old.items (heap_for (length old.items + n) old.place))
    pub refused : OnErr result (new ≡ old)
    -- an empty list allocates nothing, nor does one on the heap that has the room
    pub succeeds : length old.items + n ≤ (if old.place.inline then 0 else old.place.capacity) → IsOk result

  -- A call that reserves room for n items more by this growth took `old` to `new`, with this result. A list that has the room, or is
  -- inline afterwards, is unchanged, and a failure changes nothing that is seen.
  pub record Reserves {A L : Type 0} (g : Storage.Ghosts A T L) (D : T → Type 0) (how : Growth) (n : ℕ) (old new : TinyVec A T L) (result : Result X E) : Type 0 where
    pub ok : OnOk result (BecomesIn D (view g old) (view g new) (view g old).items (place_for how (length (view g old).items + n) (view g old).place))
    pub kept : length (view g old).items + n ≤ (view g old).place.capacity → IsOk result × (new ≡ old)
    pub stays : IsTrue (view g new).place.inline → new ≡ old
    pub refused : OnErr result (view g new ≡ view g old)
