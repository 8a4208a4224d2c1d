-- What a call of a `TinyVec` may be answered, and what it then leaves.
use Rattle.std.specs.Prelude.{◌≡◌, ℕ, ◌+◌, ◌-◌, ◌<◌, ◌≤◌, ◌↔◌, [], ◌∷◌, ◌++◌, length, take, insert, remove, slice_get, Some, false, IsTrue}
use Rattle.std.specs.List.{swap_remove}
use Rattle.tinyvec_slots.specs.Slots.{AreDefaults}
use Rattle.tinyvec.specs.View.{TinyView, Becomes, BecomesIn, Doubled, Reserved, place_for, heap_for}
use Rattle.tinyvec.specs.Room.{GrowsByPushes}
use Rattle.tinyvec_script.specs.Driving.{IsRange, ListDrains, DrivenSplices, SpliceAnswers}
use Rattle.tinyvec_script.specs.declared.call.Call.{Call}
use Rattle.tinyvec_script.specs.declared.call.Call.TheVariants.{Push, Pop, Insert, Remove, SwapRemove, Truncate, Drain, Splice, SetLen, Reserve, Heap, Shrink}
use Rattle.tinyvec_script.specs.declared.call.Answer.{Answer}
use Rattle.tinyvec_script.specs.declared.call.Answer.TheVariants as answers

module _ {T : Type 0} (D : T → Type 0) (slots : ℕ) where
  -- A move to the heap left the list there, with room for no more. A list on the heap stays as it is.
  pub record Moved (old new : TinyView T) : Type 0 where
    pub becomes : BecomesIn D old new old.items (heap_for (length old.items) old.place)
    pub kept : old.place.inline ≡ false → new ≡ old

  -- A move back left the list in the array if it fits, with defaults after it. An inline list stays as it is.
  pub record Shrunk (old new : TinyView T) : Type 0 where
    pub items_are : new.items ≡ old.items
    pub place_is : IsTrue new.place.inline ↔ (length old.items ≤ slots)
    pub room_is : IsTrue new.place.inline → new.place.capacity ≡ slots
    pub kept : IsTrue old.place.inline → new ≡ old
    pub spare_are : old.place.inline ≡ false → IsTrue new.place.inline → AreDefaults D (slots - length old.items) new.spare
    pub no_more_room : new.place.inline ≡ false → new.place.capacity ≤ old.place.capacity

  -- From the old value the call may have this answer, and leave the new value, if that fits. A refused allocation is a case
  -- of its own: `Memory` only if there is no room for the items, for the move of an inline list of items to the heap, for those
  -- that a drain or a splice takes, or for those that a splice may return.
  abbrev pub TinyAnswers : TinyView T → Call T → Answer T → TinyView T → Type 0
  TinyAnswers old (Push x) answers.Done new =
      BecomesIn D old new (old.items ++ x ∷ []) (place_for Doubled (length old.items + 1) old.place)
  TinyAnswers old (Push x) answers.Memory new = (length old.items ≡ old.place.capacity) × (new ≡ old)
  TinyAnswers old Pop (answers.Some x) new = (old.items ≡ new.items ++ x ∷ [])
      × Becomes D old new (take (length old.items - 1) old.items)
  TinyAnswers old Pop answers.None new = (old.items ≡ []) × (new ≡ old)
  TinyAnswers old (Insert i x) answers.Done new = (i ≤ length old.items)
      × BecomesIn D old new (insert old.items i x) (place_for Doubled (length old.items + 1) old.place)
  TinyAnswers old (Insert i x) answers.Range new = (length old.items < i) × (new ≡ old)
  TinyAnswers old (Insert i x) answers.Memory new = (i ≤ length old.items)
      × (length old.items ≡ old.place.capacity) × (new ≡ old)
  TinyAnswers old (Remove i) (answers.Some x) new = (slice_get old.items i ≡ Some x)
      × Becomes D old new (remove old.items i)
  TinyAnswers old (Remove i) answers.Range new = (length old.items ≤ i) × (new ≡ old)
  TinyAnswers old (SwapRemove i) (answers.Some x) new = (slice_get old.items i ≡ Some x)
      × Becomes D old new (swap_remove old.items i x)
  TinyAnswers old (SwapRemove i) answers.Range new = (length old.items ≤ i) × (new ≡ old)
  TinyAnswers old (Truncate n) answers.Done new = Becomes D old new (take n old.items)
  TinyAnswers old (Drain start end) answers.Range new = (IsRange old.items start end → ⊥) × (new ≡ old)
  TinyAnswers old (Drain start end) answers.Memory new = IsRange old.items start end × (start < end) × (new ≡ old)
  TinyAnswers old (Drain start end) (answers.Items given) new = IsRange old.items start end
      × ListDrains old.items start end given.items new.items × Becomes D old new new.items
  TinyAnswers old (Splice start end word replacement) answers.Range new = (IsRange old.items start end → ⊥) × (new ≡ old)
  TinyAnswers old (Splice start end word replacement) answer new = IsRange old.items start end
      × SpliceAnswers new.place.capacity (length old.items) start end replacement.items (new ≡ old)
      (λ yields rest. DrivenSplices (λ v. v.items) (GrowsByPushes D) new.place.capacity old start end word.items replacement.items yields rest new)
      answer
  TinyAnswers old (Reserve n) answers.Done new =
      BecomesIn D old new old.items (place_for Reserved (length old.items + n) old.place)
  TinyAnswers old (Reserve n) answers.Memory new = (old.place.capacity < length old.items + n) × (new ≡ old)
  TinyAnswers old Heap answers.Done new = Moved old new
  TinyAnswers old Heap answers.Memory new = IsTrue old.place.inline × (0 < length old.items) × (new ≡ old)
  TinyAnswers old Shrink answers.Done new = Shrunk old new
  -- it has no such call
  TinyAnswers old (SetLen n) answers.Unfit new = new ≡ old
  -- no other answer is given
  TinyAnswers old call answer new = ⊥

  -- The call may have this answer, and take `old` to `new`, whose list fits its place.
  pub record TinyStep (old : TinyView T) (call : Call T) (answer : Answer T) (new : TinyView T) : Type 0 where
    pub answered : TinyAnswers old call answer new
    pub fits : length new.items ≤ new.place.capacity
