-- Examples of counted faults.
use Rattle.std.proofs.Common.{◌≡◌, ℕ, ◌==◌, inr, true, false, [], ◌∷◌, Some, Ok, Err, Result, refl, rules, arith}
use Rattle.tinyvec_io.specs.Counted.{CountedView, CountsFault, CountsFailed, CountsEnds, LeavesFault, Reported, Retries, fault_after, is_write_fault, write_fault_after, AppendsFront, ConsumesFront}
use Rattle.std.specs.declared.io.ErrorKind.TheVariants.{BrokenPipe, Interrupted, WriteZero}

abbrev pub wrote : ℕ → Result ℕ Unit
wrote count = Ok count

-- a reader with two faults, one of them an interruption after which it was tried again
abbrev pub seen : {E : Type 0} → E → CountedView E
seen reader = record { inner = reader; faults = 2; last_fault = Some Interrupted; failed = 1; flushed = false }

-- a `CountedView` of two faults
pub example-CountedView : {E : Type 0} (reader : E) → (seen reader).faults ≡ 2
example-CountedView reader = refl

pub example-Reported : Reported 2 3
example-Reported = search rules

pub example-CountsFault : CountsFault true 2 3
example-CountsFault = record { exact = refl; grows = omega arith }

-- a result that is the error 4
abbrev pub fails : Result Unit ℕ
fails = Err 4

pub example-CountsFailed : CountsFailed (λ error. error == 4) 2 3 fails
example-CountsFailed = record { exact = refl; grows = omega arith }

-- the error 4 comes of the reader, the error 5 of the writer
pub example-CountsEnds : {E : Type 0} (reader writer : E) → CountsEnds (λ error. error == 4) (λ error. error == 5)
    (seen reader) (record { inner = reader; faults = 3; last_fault = Some BrokenPipe; failed = 2; flushed = false }) (seen writer) (seen writer) fails
example-CountsEnds reader writer = record { read = record { exact = refl; grows = omega arith }; write = record { exact = refl; grows = omega arith } }

pub example-is_write_fault : is_write_fault (wrote 0) (7 ∷ []) ≡ true
example-is_write_fault = refl

-- a read that returned nothing, and a write that took nothing
pub example-fault_after : fault_after {T = ℕ} (Ok 0) (Some BrokenPipe) ≡ Some BrokenPipe
example-fault_after = refl

pub example-write_fault_after : write_fault_after (Ok 0) (7 ∷ []) (Some BrokenPipe) ≡ Some WriteZero
example-write_fault_after = refl

-- it was interrupted, and tried again
pub example-LeavesFault : LeavesFault {T = ℕ} (Some BrokenPipe) (Some Interrupted) (Ok 3)
example-LeavesFault = inr refl

pub example-Retries : Retries {T = ℕ} 2 3 (Ok 0)
example-Retries = record { grows = omega arith; fault = tt; retried = tt }

pub example-AppendsFront : AppendsFront (Some (1 ∷ [])) (Some (1 ∷ 2 ∷ [])) (2 ∷ 3 ∷ [])
example-AppendsFront = (2 ∷ [], 3 ∷ [], refl, search rules)

pub example-ConsumesFront : ConsumesFront (Some (1 ∷ 2 ∷ [])) (Some (2 ∷ [])) (1 ∷ 7 ∷ [])
example-ConsumesFront = (1 ∷ [], 7 ∷ [], refl, omega arith, search rules)
