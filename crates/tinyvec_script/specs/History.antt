-- Words for what is under way between two bytes of the input.
use Rattle.std.specs.Prelude.{◌≡◌, ℕ, List, ◌++◌, length, Option, None, Some, nat_lt, if◌then◌else◌}
use Rattle.tinyvec_io.specs.Lines.{Splits}
use Rattle.tinyvec_script.specs.Script.{State, start, Answers, Script}

-- what is kept of a line that isn't ended: nothing if it is too long for a command
abbrev pub kept : List ℕ → Option (List ℕ)
kept rest = if nat_lt 128 (length rest) then None else Some rest

-- some bytes more
abbrev pub extend_kept : Option (List ℕ) → List ℕ → Option (List ℕ)
extend_kept None piece = None
extend_kept (Some bytes) piece = kept (bytes ++ piece)

-- the output answers the complete lines of the text, and leaves the list; the rest has come of the next line
pub record Progress (text output : List ℕ) (state : State) (rest : List ℕ) : Type 0 where
  pub lines : List (List ℕ)
  pub split : Splits text lines rest
  pub answers : Answers start lines output state

-- at any point of a run, these bytes and what is written for them take it further
pub record Feeds (old : State) (line : Option (List ℕ)) (bytes written : List ℕ) (new : State) (line' : Option (List ℕ)) : Type 0 where
  pub from : (text output rest : List ℕ) → Progress text output old rest → line ≡ kept rest
      → (rest' : List ℕ) × Progress (text ++ bytes) (output ++ written) new rest' × (line' ≡ kept rest')

-- at any point of a run, the end of the input and what is written for it complete it
pub record Ends (old : State) (line : Option (List ℕ)) (written : List ℕ) : Type 0 where
  pub from : (text output rest : List ℕ) → Progress text output old rest → line ≡ kept rest → Script text (output ++ written)
