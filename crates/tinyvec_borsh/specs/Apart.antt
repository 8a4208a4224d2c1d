-- Which of the answers it is follows from the input.
use Rattle.std.specs.Prelude.{◌≡◌, ℕ, List, [], ◌++◌}
use Rattle.tinyvec_borsh.specs.Fronts.{FrontsAreCut}
use Rattle.tinyvec_borsh.specs.declared.borsh_error.BorshError.{BorshError}
use Rattle.tinyvec_borsh.specs.declared.borsh_error.BorshError.TheVariants.{Ended, Io, Memory}

-- the error comes of the input alone
abbrev pub IsOfInput : BorshError → Type 0
IsOfInput Io = ⊥
IsOfInput Memory = ⊥
IsOfInput error = Unit {0}

-- No input is two of these: one that begins with the encoding of a content that fits, and one that is refused for each
-- reason. An encoding is not cut, of whatever content; a front of one of what fits, some byte short of it, is, and so is no byte.
pub record AreApart {C : Type 0} (Spells : C → List ℕ → Type 0) (Fits : C → Type 0) (Reason : BorshError → List ℕ → Type 0) : Type 0 where
  pub spelled_or_cut : (c : C) (bytes rest : List ℕ) → Spells c bytes → Reason Ended (bytes ++ rest) → ⊥
  pub fits_or_refused : (e : BorshError) → IsOfInput e → (c : C) (bytes rest : List ℕ) → Fits c → Spells c bytes → Reason e (bytes ++ rest) → ⊥
  pub one_reason : (e f : BorshError) → IsOfInput e → IsOfInput f → (input : List ℕ) → Reason e input → Reason f input → e ≡ f
  pub front_is_cut : FrontsAreCut Spells Fits (Reason Ended)
  pub none_is_cut : Reason Ended []
