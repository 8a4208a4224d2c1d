-- What a reading answers, by what the input is.
use Rattle.std.specs.Prelude.{◌≡◌, ℕ, ◌+◌, ◌<◌, ◌≤◌, ◌⊎◌, Bool, false, List, ◌++◌, length, map, drop, None, Some, Option, Ok, Err, Result, IfErr}
use Rattle.std.specs.List.{AllByRecursion}
use Rattle.std.specs.Io.KnownBytes.{Consumes, IsAtEnd}
use Rattle.tinyvec_io.specs.Counted.{CountedView, Reported}
use Rattle.tinyvec_borsh.specs.Apart.{IsOfInput}
use Rattle.tinyvec_borsh.specs.Failed.{CountsIo}
use Rattle.tinyvec_borsh.specs.Items.{IsCount, SpellsItems}
use Rattle.tinyvec_borsh.specs.TwoParts.{HasParts}
use Rattle.tinyvec_borsh.specs.declared.borsh_error.BorshError.{BorshError}
use Rattle.tinyvec_borsh.specs.declared.borsh_error.BorshError.TheVariants.{Ended, InvalidLength, Io, Memory}

-- the input is so, if it is known; else it may be so
abbrev pub MayBe : Option (List ℕ) → (List ℕ → Type 0) → Type 0
MayBe None P = (input : List ℕ) × P input
MayBe (Some input) P = P input

-- The whole input is bytes, fewer than this, and ends before the last.
abbrev pub FewBytes : ℕ → BorshError → List ℕ → Type 0
FewBytes n error input = (error ≡ Ended) × AllByRecursion (λ byte. byte < 256) input × (length input < n)

-- Bytes that spell the value were taken from the front of the input.
abbrev pub ReadsSpelling : (List ℕ → Type 0) → Option (List ℕ) → Option (List ℕ) → Type 0
ReadsSpelling SpellsIt old new = (bytes : List ℕ) × SpellsIt bytes × Consumes old new bytes

-- Some bytes were taken from the front of the input: all of it, if the error is `Ended`. No byte more was than shows the error: a
-- front of them, some byte short, is cut. At `Io` and `Memory`, which do not come of the input, all of them are.
pub record TakesSome (IsCut : List ℕ → Type 0) (old new : Option (List ℕ)) (error : BorshError) : Type 0 where
  pub bytes : List ℕ
  pub taken : Consumes old new bytes
  pub end : error ≡ Ended → IsAtEnd new
  pub needed : (front back : List ℕ) → 0 < length back → bytes ≡ front ++ back → IsCut front
  pub short : ¬ (IsOfInput error) → IsCut bytes

-- A reading into slots took `old` to `new` and failed. There are as many slots. Those at the front were read, one after another, of
-- what was taken, and after them no more was taken than shows the error; the other slots are as they were, unless the reader wrote
-- into the slots themselves.
pub record LeavesSlots {T C : Type 0} (content : T → C) (Spells : C → List ℕ → Type 0) (Fits : C → Type 0) (in_place : Bool) (IsCut : List ℕ → Type 0) (old new : List T) (was is : Option (List ℕ)) (error : BorshError) : Type 0 where
  pub read : List T
  pub rest : List T
  pub slots : new ≡ read ++ rest
  pub same_len : length new ≡ length old
  pub some_left : length read < length old
  pub kept : in_place ≡ false → rest ≡ drop (length read) old
  pub fit : AllByRecursion Fits (map content read)
  pub taken : (mid : Option (List ℕ)) × ReadsSpelling (SpellsItems Spells (map content read)) was mid × TakesSome IsCut mid is error

-- Why nothing was read. `Io` comes only if the reader reported a fault, and another error only if the input is a reason for
-- it: cut for `Ended`, too long for `InvalidLength`, a text that is not UTF-8 for `InvalidUtf8`. For `Memory` it is one of
-- which reading may allocate.
abbrev pub Fails : (Reason : BorshError → List ℕ → Type 0) → Option (List ℕ) → ℕ → ℕ → BorshError → Type 0
Fails Reason input old_faults new_faults Io = Reported old_faults new_faults
Fails Reason input old_faults new_faults error = MayBe input (Reason error)

-- A reading took the reader from `old` to `new`, with this result. `Io` comes only if the reader reported a fault, and another error
-- only if the input is a reason for it.
pub record FailsFor {R T : Type 0} (remaining : R → Option (List ℕ)) (Reason : BorshError → List ℕ → Type 0) (old new : CountedView R) (result : Result T BorshError) : Type 0 where
  pub err : IfErr result (Fails Reason (remaining old.inner) old.faults new.faults)
  -- some bytes were taken, and no more than shows the error: all, if it is `Ended`; at `Io` and `Memory` no whole spelling
  pub taken : IfErr result (TakesSome (Reason Ended) (remaining old.inner) (remaining new.inner))
  pub grows : old.faults ≤ new.faults
  -- one call failed at `Io`, else none: not at `Ok` either
  pub failed : CountsIo old.failed new.failed result

-- A value of the content was read, and what follows stays unread; or the reader reported a fault, or memory was refused that
-- may be asked for to read this input.
abbrev pub ReadsBack : {T C : Type 0} → (T → C) → (List ℕ → Type 0) → C → (input rest : List ℕ) → Option (List ℕ) → ℕ → ℕ → Result T BorshError → Type 0
ReadsBack content MayAllocate c input rest new old_faults new_faults (Ok v) = (content v ≡ c) × (new ≡ Some rest)
ReadsBack content MayAllocate c input rest new old_faults new_faults (Err Io) = Reported old_faults new_faults
ReadsBack content MayAllocate c input rest new old_faults new_faults (Err Memory) = MayAllocate input
ReadsBack content MayAllocate c input rest new old_faults new_faults (Err error) = ⊥

-- Just a count, above the room, and one item more than the room were taken.
pub record TakesTooMany {C : Type 0} (Spells : C → List ℕ → Type 0) (room : ℕ) (old new : Option (List ℕ)) : Type 0 where
  pub len : ℕ
  pub items : List C
  pub over : length items ≡ room + 1
  pub above : room < len
  pub taken : ReadsSpelling (HasParts (IsCount len) (SpellsItems Spells items)) old new

-- After `InvalidLength` the count and one item more than the room were taken, or the input has an item that is too long. Other
-- errors tell nothing.
abbrev pub LeavesRest : {C : Type 0} → (C → List ℕ → Type 0) → (HasLongItem : List ℕ → Type 0) → (room : ℕ) → (old new : Option (List ℕ)) → BorshError → Type 0
LeavesRest Spells HasLongItem room old new InvalidLength = TakesTooMany Spells room old new ⊎ MayBe old HasLongItem
LeavesRest Spells HasLongItem room old new error = Unit {0}
