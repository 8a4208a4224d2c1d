-- What a writing adds.
use Rattle.std.specs.Prelude.{◌≡◌, ◌≤◌, ℕ, List, Option, Result, OnOk, OnErr, IfErr}
use Rattle.std.specs.Io.KnownBytes.{Appends}
use Rattle.tinyvec_io.specs.Counted.{AppendsFront, CountedView, Reported}
use Rattle.tinyvec_borsh.specs.Failed.{CountsIo}
use Rattle.tinyvec_borsh.specs.declared.borsh_error.BorshError.{BorshError}
use Rattle.tinyvec_borsh.specs.declared.borsh_error.BorshError.TheVariants.{Io}

-- Bytes that spell the value were added to what the writer had, if that is known.
abbrev pub WritesSpelling : (List ℕ → Type 0) → Option (List ℕ) → Option (List ℕ) → Type 0
WritesSpelling SpellsIt old new = (bytes : List ℕ) × SpellsIt bytes × Appends old new bytes

-- What was written is a prefix of each encoding of the value.
abbrev pub AddsFront : (List ℕ → Type 0) → Option (List ℕ) → Option (List ℕ) → Type 0
AddsFront SpellsIt old new = (bytes : List ℕ) → SpellsIt bytes → AppendsFront old new bytes

-- A writing of the value took the writer from `old` to `new`, with this result. An encoding was added; or the writer reported a
-- fault, and a prefix of each encoding was. One call failed in that case, else none.
pub record WritesValue {W T : Type 0} (contents : W → Option (List ℕ)) (SpellsIt : List ℕ → Type 0) (old new : CountedView W) (result : Result T BorshError) : Type 0 where
  pub ok : OnOk result (WritesSpelling SpellsIt (contents old.inner) (contents new.inner))
  pub err : IfErr result (λ e. (e ≡ Io) × Reported old.faults new.faults)
  pub front : OnErr result (AddsFront SpellsIt (contents old.inner) (contents new.inner))
  pub grows : old.faults ≤ new.faults
  pub failed : CountsIo old.failed new.failed result
