-- Why answers end before their input does.
use Rattle.std.specs.Prelude.{◌≤◌, Bool, true, false, Result, IsErrOf}
use Rattle.std.specs.declared.io.Error.{Error as IoError}
use Rattle.tinyvec_io.specs.Counted.{CountedView, CountsFailed, Reported}
use Rattle.example_lines.specs.declared.failure.Failure.{Failure}
use Rattle.example_lines.specs.declared.failure.Failure.TheVariants.{Input, Output as FailedOutput}
use Rattle.example_lines.specs.declared.failure.Stop.{Stop}
use Rattle.example_lines.specs.declared.failure.Stop.TheVariants.{Output}

-- the reader failed
abbrev pub is_input : Failure → Bool
is_input (Input error) = true
is_input failure = false

-- the writer failed
abbrev pub is_output : Failure → Bool
is_output (FailedOutput error) = true
is_output failure = false

-- the writer failed
abbrev pub stops_by_output : Stop → Bool
stops_by_output (Output error) = true
stops_by_output stop = false

-- One call of the writer failed if the output did, and it reported a fault; else none.
pub record Reports {W : Type 0} (old new : CountedView W) (result : Result Unit Stop) : Type 0 where
  pub grows : old.faults ≤ new.faults
  pub failed : CountsFailed stops_by_output old.failed new.failed result
  pub fault : (error : IoError) → IsErrOf result (Output error) → Reported old.faults new.faults
