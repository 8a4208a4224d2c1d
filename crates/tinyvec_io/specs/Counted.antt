-- What a contract sees of a `Counted`, and how the results of its calls change the number of faults.
use Rattle.std.specs.Prelude.{◌≡◌, ◌≢◌, ℕ, ◌+◌, ◌-◌, ◌^◌, ◌<◌, ◌≤◌, ◌⊎◌, min, zero, suc, Bool, true, false, if◌then◌else◌, List, [], ◌∷◌, ◌++◌, length, Option, Some, Ok, Err, Result, OnErr, IfErr}
use Rattle.std.specs.IoError.{error_kind}
use Rattle.std.specs.declared.io.Error.{Error}
use Rattle.std.specs.declared.io.ErrorKind.{ErrorKind}
use Rattle.std.specs.declared.io.ErrorKind.TheVariants.{Interrupted, WriteZero}
use Rattle.std.specs.Io.KnownBytes.{Appends, Consumes}

-- The reader or writer, the number of its faults and the kind of the last one, the number of the calls that failed, and whether a
-- flush succeeded that no write came after.
pub record CountedView (E : Type 0) : Type 0 where
  pub inner : E
  pub faults : ℕ
  pub last_fault : Option ErrorKind
  pub failed : ℕ
  pub flushed : Bool

-- one more, up to `u64::MAX`
abbrev pub one_more_fault : ℕ → ℕ
one_more_fault faults = min (faults + 1) (2 ^ 64 - 1)

-- A call took the number from `old` to `new`: one more if the call is a fault.
pub record CountsFault (is_fault : Bool) (old new : ℕ) : Type 0 where
  pub exact : new ≡ (if is_fault then one_more_fault old else old)
  pub grows : old ≤ new

-- the result is an error that passes the test
abbrev pub is_err_of : {T E : Type 0} → (E → Bool) → Result T E → Bool
is_err_of test (Ok value) = false
is_err_of test (Err error) = test error

-- A call with this result took the number of failed calls from `old` to `new`: one more if its error passes the test, else none.
abbrev pub CountsFailed : {T E : Type 0} → (E → Bool) → ℕ → ℕ → Result T E → Type 0
CountsFailed test old new result = CountsFault (is_err_of test result) old new

-- The same of both ends of a program. Which of them failed, if one did, the error says.
pub record CountsEnds {R W T E : Type 0} (of_reader of_writer : E → Bool) (reader new_reader : CountedView R)
    (writer new_writer : CountedView W) (result : Result T E) : Type 0 where
  pub read : CountsFailed of_reader reader.failed new_reader.failed result
  pub write : CountsFailed of_writer writer.failed new_writer.failed result

-- a write of these bytes with this result is a fault
abbrev pub is_write_fault : {E : Type 0} → Result ℕ E → List ℕ → Bool
is_write_fault (Ok zero) (byte ∷ bytes) = true
is_write_fault (Ok zero) [] = false
is_write_fault (Ok (suc count)) bytes = false
is_write_fault (Err error) bytes = true

-- the kind of the last fault after a call with this result
abbrev pub fault_after : {T : Type 0} → Result T Error → Option ErrorKind → Option ErrorKind
fault_after (Ok value) old = old
fault_after (Err error) old = Some (error_kind error)

-- the same after a write of these bytes
abbrev pub write_fault_after : Result ℕ Error → List ℕ → Option ErrorKind → Option ErrorKind
write_fault_after (Ok zero) (byte ∷ bytes) old = Some WriteZero
write_fault_after (Ok zero) [] old = old
write_fault_after (Ok (suc count)) bytes old = old
write_fault_after (Err error) bytes old = Some (error_kind error)

-- the number rose during the call, or is `u64::MAX`, which cannot rise
abbrev pub Reported : ℕ → ℕ → Type 0
Reported old new = (old < new) ⊎ (new ≡ 2 ^ 64 - 1)

-- A call that retries after an interruption took the number from `old` to `new`. If it failed, the error is no interruption, and is
-- counted.
pub record Retries {T : Type 0} (old new : ℕ) (result : Result T Error) : Type 0 where
  pub grows : old ≤ new
  pub fault : OnErr result (Reported old new)
  pub retried : IfErr result (λ e. error_kind e ≢ Interrupted)

-- After a call that retries after an interruption the kind of the last fault is that of its error. If it succeeded, it is what it
-- was, or there was an interruption.
abbrev pub LeavesFault : {T : Type 0} → Option ErrorKind → Option ErrorKind → Result T Error → Type 0
LeavesFault old new (Ok value) = (new ≡ old) ⊎ (new ≡ Some Interrupted)
LeavesFault old new (Err error) = new ≡ Some (error_kind error)

-- the known bytes grow by a prefix of these bytes
abbrev pub AppendsFront : Option (List ℕ) → Option (List ℕ) → List ℕ → Type 0
AppendsFront old new bytes = (front rest : List ℕ) × (bytes ≡ front ++ rest) × Appends old new front

-- the known bytes begin with a prefix of these bytes, but not with all of them, and lose that prefix
abbrev pub ConsumesFront : Option (List ℕ) → Option (List ℕ) → List ℕ → Type 0
ConsumesFront old new bytes = (front rest : List ℕ) × (bytes ≡ front ++ rest) × (0 < length rest) × Consumes old new front
