-- The encoding of texts is a code, and no input is two of fitting and refused for a reason.
use Rattle.std.proofs.Common.{◌≡◌, subst, ℕ, ◌-◌, ◌^◌, ◌<◌, List, ◌++◌, refl, lit<, IsUtf8}
use Rattle.tinyvec_borsh.specs.Apart.{AreApart, IsOfInput}
use Rattle.tinyvec_borsh.specs.Both.{IsBehind}
use Rattle.tinyvec_borsh.specs.Code.{IsCode}
use Rattle.tinyvec_borsh.specs.Items.{MayAllocate, TinyReason}
use Rattle.tinyvec_borsh.specs.ItemsLaws.{list_apart, list_code, list_spelled, same-item}
use Rattle.tinyvec_borsh.specs.Number.{SpellsNumber, TooFewBytes}
use Rattle.tinyvec_borsh.specs.NumberLaws.{number_apart, number_code, number_spelled}
use Rattle.tinyvec_borsh.specs.Text.{AreBytes, AreNoText, SpellsText, TextFits, TextReason}
use Rattle.tinyvec_borsh.specs.declared.borsh_error.BorshError.{BorshError}
use Rattle.tinyvec_borsh.specs.declared.borsh_error.BorshError.TheVariants.{Ended, InvalidLength, InvalidUtf8, Io, Memory}

pub text_code : IsCode SpellsText
text_code = list_code (SpellsNumber 1) (number_code 1 (lit< tt))

pub text_spelled : (c : List ℕ) → TextFits c → (bytes : List ℕ) × SpellsText c bytes
text_spelled c fits = list_spelled (SpellsNumber 1) (λ n. n < 2 ^ 8) (number_spelled 1) (2 ^ 64 - 1) c fits.0

module _ (slots : ℕ) where
  pub bytes_apart : AreApart SpellsText AreBytes (TinyReason (SpellsNumber 1) (λ n. n < 2 ^ 8) (TooFewBytes 1) slots)
  bytes_apart = list_apart (SpellsNumber 1) (number_code 1 (lit< tt)) (λ n. n < 2 ^ 8) (TooFewBytes 1) (number_apart 1 (lit< tt) (λ n. n < 2 ^ 8)) (MayAllocate (SpellsNumber 1) (λ n. n < 2 ^ 8) slots) (2 ^ 64 - 1)

  fits-or-refused : (e : BorshError) → IsOfInput e → (c : List ℕ) (bytes rest : List ℕ) → TextFits c → SpellsText c bytes → TextReason slots e (bytes ++ rest) → ⊥
  fits-or-refused Ended of c bytes rest fits p refused = bytes_apart.fits_or_refused Ended of c bytes rest fits.0 p refused
  fits-or-refused InvalidLength of c bytes rest fits p refused = bytes_apart.fits_or_refused InvalidLength of c bytes rest fits.0 p refused
  fits-or-refused InvalidUtf8 of c bytes rest fits p refused =
      let same = same-item SpellsText text_code c refused.content bytes refused.first rest refused.rest p refused.is_first refused.whole in
      refused.valid.1 (subst IsUtf8 same.0 fits.1)
  fits-or-refused Io of c bytes rest fits p refused = of
  fits-or-refused Memory of c bytes rest fits p refused = of

  -- bytes that are no text are not cut or too many
  no-text-alone : (e : BorshError) → IsOfInput e → (input : List ℕ) → IsBehind SpellsText AreNoText (λ rest. Unit {0}) input → TinyReason (SpellsNumber 1) (λ n. n < 2 ^ 8) (TooFewBytes 1) slots e input → ⊥
  no-text-alone e of input r s = bytes_apart.fits_or_refused e of r.content r.first r.rest r.valid.0 r.is_first (subst (TinyReason (SpellsNumber 1) (λ n. n < 2 ^ 8) (TooFewBytes 1) slots e) r.whole s)

  one-reason : (e f : BorshError) → IsOfInput e → IsOfInput f → (input : List ℕ) → TextReason slots e input → TextReason slots f input → e ≡ f
  one-reason InvalidUtf8 InvalidUtf8 of_e of_f input r s = refl
  one-reason InvalidUtf8 Ended of_e of_f input r s = absurd (no-text-alone Ended of_f input r s)
  one-reason InvalidUtf8 InvalidLength of_e of_f input r s = absurd (no-text-alone InvalidLength of_f input r s)
  one-reason Ended InvalidUtf8 of_e of_f input r s = absurd (no-text-alone Ended of_e input s r)
  one-reason InvalidLength InvalidUtf8 of_e of_f input r s = absurd (no-text-alone InvalidLength of_e input s r)
  one-reason Ended Ended of_e of_f input r s = refl
  one-reason InvalidLength InvalidLength of_e of_f input r s = refl
  one-reason Ended InvalidLength of_e of_f input r s = bytes_apart.one_reason Ended InvalidLength of_e of_f input r s
  one-reason InvalidLength Ended of_e of_f input r s = bytes_apart.one_reason InvalidLength Ended of_e of_f input r s
  one-reason Io f of_e of_f input r s = absurd of_e
  one-reason Memory f of_e of_f input r s = absurd of_e
  one-reason e Io of_e of_f input r s = absurd of_f
  one-reason e Memory of_e of_f input r s = absurd of_f

  pub text_apart : AreApart SpellsText TextFits (TextReason slots)
  text_apart = record {
    spelled_or_cut = bytes_apart.spelled_or_cut;
    fits_or_refused = fits-or-refused;
    one_reason = one-reason;
    front_is_cut = λ c front back some fits p. bytes_apart.front_is_cut c front back some fits.0 p;
    none_is_cut = bytes_apart.none_is_cut;
  }
