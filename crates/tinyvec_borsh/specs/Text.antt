-- A text as bytes: the list of its bytes, which are UTF-8.
use Rattle.std.specs.Prelude.{ℕ, ◌-◌, ◌^◌, ◌<◌, List, IsUtf8}
use Rattle.tinyvec_borsh.specs.Both.{IsBehind}
use Rattle.tinyvec_borsh.specs.Items.{ListFits, SpellsList, TinyReason}
use Rattle.tinyvec_borsh.specs.Number.{SpellsNumber, TooFewBytes}
use Rattle.tinyvec_borsh.specs.declared.borsh_error.BorshError.{BorshError}
use Rattle.tinyvec_borsh.specs.declared.borsh_error.BorshError.TheVariants.{InvalidUtf8}

-- the count of the bytes, and then the bytes
abbrev pub SpellsText : List ℕ → List ℕ → Type 0
SpellsText = SpellsList (SpellsNumber 1)

-- they are a list of bytes
abbrev pub AreBytes : List ℕ → Type 0
AreBytes = ListFits (SpellsNumber 1) (λ n. n < 2 ^ 8) (2 ^ 64 - 1)

-- and UTF-8
abbrev pub TextFits : List ℕ → Type 0
TextFits bytes = AreBytes bytes × IsUtf8 bytes

-- or not
abbrev pub AreNoText : List ℕ → Type 0
AreNoText bytes = AreBytes bytes × (IsUtf8 bytes → ⊥)

-- The input begins with bytes that are not UTF-8. The other reasons are those of a list of bytes, with an array of that many slots.
abbrev pub TextReason : (slots : ℕ) → BorshError → List ℕ → Type 0
TextReason slots InvalidUtf8 input = IsBehind SpellsText AreNoText (λ rest. Unit {0}) input
TextReason slots error input = TinyReason (SpellsNumber 1) (λ n. n < 2 ^ 8) (TooFewBytes 1) slots error input
