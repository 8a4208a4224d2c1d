-- Bytes that are read as a text.
use Rattle.std.proofs.Common.{◌≢◌, ℕ, ◌^◌, ◌<◌, inl, inr, List, Option, None, Some}
use Rattle.tinyvec_borsh.specs.declared.borsh_error.BorshError.{BorshError}
use Rattle.tinyvec_borsh.specs.declared.borsh_error.BorshError.TheVariants.{Ended, InvalidLength, InvalidUtf8, Io, Memory}
use Rattle.tinyvec_borsh.specs.Both.{IsBehind}
use Rattle.tinyvec_borsh.specs.Items.{TinyReason}
use Rattle.tinyvec_borsh.specs.Number.{SpellsNumber, TooFewBytes}
use Rattle.tinyvec_borsh.specs.Reading.{Fails, MayBe, ReadsSpelling}
use Rattle.tinyvec_borsh.specs.Text.{AreNoText, SpellsText, TextReason}
use Rattle.tinyvec_borsh.proofs.AtFaults.{utf8_is_other}
use Rattle.tinyvec_borsh.proofs.ItemByItem.{maybe-any, maybe-behind}

-- why a list of bytes is not read
abbrev pub BytesReason : ℕ → BorshError → List ℕ → Type 0
BytesReason slots = TinyReason (SpellsNumber 1) (λ n. n < 2 ^ 8) (TooFewBytes 1) slots

never-text : (slots : ℕ) (input : List ℕ) → BytesReason slots InvalidUtf8 input → ⊥
never-text slots input given = elim given [ inl none ↦ none | inr item ↦ utf8_is_other.0 item.left.0 ]

-- the bytes were not read
pub bytes-other : (slots : ℕ) (old : Option (List ℕ)) (before after : ℕ) (e : BorshError) → Fails (BytesReason slots) old before after e → e ≢ InvalidUtf8
bytes-other slots old before after Ended f is = cc
bytes-other slots old before after InvalidLength f is = cc
bytes-other slots None before after InvalidUtf8 f is = never-text slots f.0 f.1
bytes-other slots (Some input) before after InvalidUtf8 f is = never-text slots input f
bytes-other slots old before after Io f is = cc
bytes-other slots old before after Memory f is = cc

pub text-reason : (slots : ℕ) (e : BorshError) (input : List ℕ) → BytesReason slots e input → TextReason slots e input
text-reason slots Ended input why = why
text-reason slots InvalidLength input why = why
text-reason slots InvalidUtf8 input why = absurd (never-text slots input why)
text-reason slots Io input why = why
text-reason slots Memory input why = why

-- they were read, and are no text
pub no-text : (bytes : List ℕ) (old new : Option (List ℕ)) → AreNoText bytes → ReadsSpelling (SpellsText bytes) old new → MayBe old (IsBehind SpellsText AreNoText (λ rest. Unit {0}))
no-text bytes old new other t = maybe-behind old new (λ rest. Unit {0}) (IsBehind SpellsText AreNoText (λ rest. Unit {0})) t (λ input p. record { content = bytes; valid = other; parts = p }) (maybe-any new)
