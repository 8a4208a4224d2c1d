-- What a call does that writes to a `Counted`, some of it gathered first.
use Rattle.std.specs.Prelude.{◌≡◌, ◌⊎◌, ℕ, ◌≤◌, true, List, [], ◌++◌, Option, None, Some, Result, OnOk, OnErr, IsErr, is_err}
use Rattle.std.specs.Io.KnownBytes.{Appends}
use Rattle.tinyvec_io.specs.Counted.{CountedView, CountsFault, AppendsFront, Reported}

-- The text was written if the call succeeded, and no call of the writer failed; if it failed a front of it was, one call of the
-- writer failed, and a fault was reported.
pub record Writes {W T E : Type 0} (contents : W → Option (List ℕ)) (old new : CountedView W) (result : Result T E) (text : List ℕ) : Type 0 where
  pub ok : OnOk result (Appends (contents old.inner) (contents new.inner) text)
  pub err : OnErr result (AppendsFront (contents old.inner) (contents new.inner) text)
  pub grows : old.faults ≤ new.faults
  pub fault : OnErr result (Reported old.faults new.faults)
  pub failed : CountsFault (is_err result) old.failed new.failed

-- the bytes that are gathered, or nothing after an error
abbrev pub gathered_of : {E : Type 0} → Option E → List ℕ → Option (List ℕ)
gathered_of None bytes = Some bytes
gathered_of (Some error) bytes = None

-- The text followed these bytes. A prefix of both was written, the rest is gathered, and no call of the writer failed; or one did, and
-- a fault was reported.
pub record GathersBehind {W : Type 0} (contents : W → Option (List ℕ)) (old : CountedView W) (bytes : List ℕ) (new : CountedView W)
    (gathered : Option (List ℕ)) (text : List ℕ) : Type 0 where
  pub written : List ℕ
  pub rest : List ℕ
  pub appended : Appends (contents old.inner) (contents new.inner) written
  pub whole : bytes ++ text ≡ written ++ rest
  pub grows : old.faults ≤ new.faults
  pub kept : ((gathered ≡ Some rest) × (new.failed ≡ old.failed))
      ⊎ ((gathered ≡ None) × Reported old.faults new.faults × CountsFault true old.failed new.failed)

-- The text follows what was gathered. After an error nothing more is written.
pub record Gathers {W : Type 0} (contents : W → Option (List ℕ)) (old : CountedView W) (before : Option (List ℕ)) (new : CountedView W)
    (gathered : Option (List ℕ)) (text : List ℕ) : Type 0 where
  pub after_error : before ≡ None → (new ≡ old) × (gathered ≡ None)
  pub behind : (bytes : List ℕ) → before ≡ Some bytes → GathersBehind contents old bytes new gathered text

-- What was gathered was written, and then nothing is gathered. After an error the call fails.
pub record Sends {W T E : Type 0} (contents : W → Option (List ℕ)) (old : CountedView W) (before : Option (List ℕ)) (new : CountedView W)
    (gathered : Option (List ℕ)) (result : Result T E) : Type 0 where
  pub after_error : before ≡ None → (new ≡ old) × IsErr result
  pub behind : (bytes : List ℕ) → before ≡ Some bytes → Writes contents old new result bytes
  pub empty : OnOk result (gathered ≡ Some [])
