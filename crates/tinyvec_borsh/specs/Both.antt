-- Two contents, encoded one after the other: what a struct is, field by field.
use Rattle.std.specs.Prelude.{ℕ, ◌⊎◌, List}
use Rattle.tinyvec_borsh.specs.TwoParts.{HasParts}
use Rattle.tinyvec_borsh.specs.declared.borsh_error.BorshError.{BorshError}

-- the encoding of the first, and then that of the second
abbrev pub SpellsBoth : {A B : Type 0} → (A → List ℕ → Type 0) → (B → List ℕ → Type 0) → A × B → List ℕ → Type 0
SpellsBoth SpellsFirst SpellsSecond both bytes = HasParts (SpellsFirst both.0) (SpellsSecond both.1) bytes

-- each of the two fits
abbrev pub BothFit : {A B : Type 0} → (A → Type 0) → (B → Type 0) → A × B → Type 0
BothFit FirstFits SecondFits both = FirstFits both.0 × SecondFits both.1

-- The input begins with a content that fits, and is so after it.
pub record IsBehind {A : Type 0} (Spells : A → List ℕ → Type 0) (Fits : A → Type 0) (P : List ℕ → Type 0) (input : List ℕ) : Type 0 where
  pub content : A
  pub valid : Fits content
  pub parts : HasParts (Spells content) P input
  pub open parts use *

-- The input is so in the first, or after the first in the second.
abbrev pub InEither : {A : Type 0} → (A → List ℕ → Type 0) → (A → Type 0) → (InFirst InSecond : BorshError → List ℕ → Type 0) → BorshError → List ℕ → Type 0
InEither Spells Fits InFirst InSecond error input = InFirst error input ⊎ IsBehind Spells Fits (InSecond error) input
