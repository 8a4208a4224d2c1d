-- What a call may be answered, and what it then leaves: steps, and runs of them.
use Rattle.std.specs.Prelude.{◌≡◌, ℕ, ◌<◌, ◌≤◌, List, [], ◌∷◌, ◌++◌, length, take, insert, remove, slice_get, Some}
use Rattle.std.specs.List.{swap_remove}
use Rattle.tinyvec_slots.specs.Slots.{Slots, items_in, len_in, all_slots, split_at, SlotRule}
use Rattle.tinyvec_script.specs.Driving.{IsRange, DrivenSplices, SpliceAnswers, ListDrains}
use Rattle.tinyvec_script.specs.declared.call.Call.{Call}
use Rattle.tinyvec_script.specs.declared.call.Call.TheVariants.{Push, Pop, Insert, Remove, SwapRemove, Truncate, Drain, Splice, SetLen, Reserve, Heap, Shrink}
use Rattle.tinyvec_script.specs.declared.call.Answer.{Answer}
use Rattle.tinyvec_script.specs.declared.call.Answer.TheVariants as answers

module _ {T : Type 0} (D : T → Type 0) where
  -- The call may have this answer, and take `old` to `new`. A refused allocation is a case of its own.
  abbrev pub ArrayStep : ℕ → Slots T → Call T → Answer T → Slots T → Type 0
  ArrayStep capacity old (Push x) answers.Done new = (len_in old < capacity) × (items_in new ≡ items_in old ++ x ∷ [])
      × SlotRule D old new
  ArrayStep capacity old (Push x) answers.Full new = (len_in old ≡ capacity) × (new ≡ old)
  ArrayStep capacity old Pop (answers.Some x) new = (items_in old ≡ items_in new ++ x ∷ []) × SlotRule D old new
  ArrayStep capacity old Pop answers.None new = (items_in old ≡ []) × (new ≡ old)
  ArrayStep capacity old (Insert i x) answers.Done new = (i ≤ len_in old) × (len_in old < capacity)
      × (items_in new ≡ insert (items_in old) i x) × SlotRule D old new
  ArrayStep capacity old (Insert i x) answers.Range new = (len_in old < i) × (new ≡ old)
  ArrayStep capacity old (Insert i x) answers.Full new = (i ≤ len_in old) × (len_in old ≡ capacity) × (new ≡ old)
  ArrayStep capacity old (Remove i) (answers.Some x) new = (slice_get (items_in old) i ≡ Some x)
      × (items_in new ≡ remove (items_in old) i) × SlotRule D old new
  ArrayStep capacity old (Remove i) answers.Range new = (len_in old ≤ i) × (new ≡ old)
  ArrayStep capacity old (SwapRemove i) (answers.Some x) new = (slice_get (items_in old) i ≡ Some x)
      × (items_in new ≡ swap_remove (items_in old) i x) × SlotRule D old new
  ArrayStep capacity old (SwapRemove i) answers.Range new = (len_in old ≤ i) × (new ≡ old)
  ArrayStep capacity old (Truncate n) answers.Done new = (items_in new ≡ take n (items_in old)) × SlotRule D old new
  ArrayStep capacity old (Drain start end) answers.Range new = (IsRange (items_in old) start end → ⊥) × (new ≡ old)
  ArrayStep capacity old (Drain start end) answers.Memory new = IsRange (items_in old) start end × (start < end) × (new ≡ old)
  ArrayStep capacity old (Drain start end) (answers.Items given) new =
      IsRange (items_in old) start end × ListDrains (items_in old) start end given.items (items_in new)
      × SlotRule D old new
  ArrayStep capacity old (Splice start end word replacement) answers.Range new =
      (IsRange (items_in old) start end → ⊥) × (new ≡ old)
  ArrayStep capacity old (Splice start end word replacement) answer new = IsRange (items_in old) start end
      × SpliceAnswers capacity (len_in old) start end replacement.items (new ≡ old)
      (λ yields rest. DrivenSplices items_in (SlotRule D) capacity old start end word.items replacement.items yields rest new) answer
  ArrayStep capacity old (SetLen n) answers.Done new = (n ≤ capacity) × (new ≡ split_at n (all_slots old))
  ArrayStep capacity old (SetLen n) answers.Range new = (capacity < n) × (new ≡ old)
  -- it has no such call
  ArrayStep capacity old (Reserve n) answers.Unfit new = new ≡ old
  ArrayStep capacity old Heap answers.Unfit new = new ≡ old
  ArrayStep capacity old Shrink answers.Unfit new = new ≡ old
  -- no other answer is given
  ArrayStep capacity old call answer new = ⊥

  -- the same of a vector in a lent slice, whose capacity is the number of its slots, and which has no splice
  abbrev pub SliceStep : Slots T → Call T → Answer T → Slots T → Type 0
  SliceStep old (Splice start end word replacement) answers.Unfit new = new ≡ old
  SliceStep old (Splice start end word replacement) answer new = ⊥
  SliceStep old call answer new = ArrayStep (length (all_slots old)) old call answer new

-- the answers to calls, one after another
module _ {V T : Type 0} (Step : V → Call T → Answer T → V → Type 0) where
  abbrev pub Run : V → List (Call T) → List (Answer T) → V → Type 0
  Run old [] [] new = new ≡ old
  Run old (call ∷ calls) (answer ∷ more) new = (mid : V) × Step old call answer mid × Run mid calls more new
  Run old [] (answer ∷ more) new = ⊥
  Run old (call ∷ calls) [] new = ⊥
