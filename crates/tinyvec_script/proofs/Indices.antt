-- Indices, as they are printed.
use Rattle.std.proofs.Common.{◌≡◌, ◌≢◌, ℕ, zero, suc, ◌+◌, ◌-◌, ◌*◌, ◌^◌, ◌<◌, ◌≤◌, List, [], ◌∷◌, ◌++◌, length, take, get_or, sym, ap, ◌∙◌, arith}
use Rattle.std.specs.List.{All}
use Rattle.std.specs.Fmt.{decimal}
use Rattle.std.specs.Char.{digit_value}
use Rattle.std.specs.Str.Parse.{AllDigits, digits_value}
use Rattle.std.proofs.lemmas.Str.Parse.{IsNumeralModel, numerals_by_value, tells_digits, digit_at, digits_value-take-le}
use Rattle.std.proofs.lemmas.Int.Digits.{digits_more, digits_value_more}
use Rattle.std.proofs.lemmas.Bool.Decides.{nat_tests}
use Rattle.std.proofs.lemmas.Fmt.{digits_decimal, decimal_digit, decimal_nonempty, first_decimal, decimal-digits_value, digits_value-decimal}
use Rattle.std.proofs.lemmas.List.Elements.{All-from_get_or}
use Rattle.tinyvec_script.proofs.Words.{one_cut}

own : IsNumeralModel (AllDigits 10) (digits_value 10)
own = numerals_by_value (AllDigits 10) tells_digits

byte_at : (n i : ℕ) → n < 2 ^ 64 → i < length (decimal n) → (48 ≤ get_or (decimal n) i 0) × (get_or (decimal n) i 0 ≤ 57)
byte_at n i h lt = let r = digit_at (decimal n) i (digits_decimal own n h) lt in (omega (arith, r), omega (arith, r))

pub printed_nonempty : (n : ℕ) (bs : List ℕ) → n < 2 ^ 64 → bs ≡ decimal n → 0 < length bs
printed_nonempty n bs h e = rw e (decimal_nonempty n h)

pub printed_zero : (n : ℕ) (bs : List ℕ) → n < 2 ^ 64 → bs ≡ decimal n → get_or bs 0 0 ≡ 48 → length bs ≡ 1
printed_zero zero bs h e p = ap length (e ∙ decimal_digit 0 (omega arith))
printed_zero (suc n) bs h e p =
    let more : 48 < get_or (decimal (suc n)) 0 0 = first_decimal (suc n) (omega arith) h in
    let same : get_or bs 0 0 ≡ get_or (decimal (suc n)) 0 0 = ap (λ l. get_or l 0 0) e in
    absurd (omega arith)

-- what was read of digits with no leading zero is printed so, and what was not read is printed by no index
pub read_is_printed : (bs : List ℕ) (value : ℕ) → 0 < length bs → AllDigits 10 bs → digits_value 10 bs ≡ value → value < 2 ^ 64 → get_or bs 0 0 ≢ 48 → bs ≡ decimal value
read_is_printed bs value some digits is fits first =
    sym (decimal-digits_value own bs digits some (λ z. absurd (first z)) (rw is fits)) ∙ ap decimal is

pub unread_is_unprinted : (bs : List ℕ) → (AllDigits 10 bs → 2 ^ 64 ≤ digits_value 10 bs) → (n : ℕ) → n < 2 ^ 64 → bs ≢ decimal n
unread_is_unprinted bs large n h e =
    let digits : AllDigits 10 bs = rw e (digits_decimal own n h) in
    let value : digits_value 10 bs ≡ n = ap (digits_value 10) e ∙ digits_value-decimal own n h in
    omega (arith, large digits, value)

-- no text of an index begins with a minus
pub first_is_digit : (n : ℕ) → n < 2 ^ 64 → (rest : List ℕ) → decimal n ≢ 45 ∷ rest
first_is_digit n h rest e =
    let same : get_or (decimal n) 0 0 ≡ 45 = ap (λ l. get_or l 0 0) e in
    omega (arith, (byte_at n 0 h (decimal_nonempty n h)).0, same)

module _ (bs : List ℕ) (i value : ℕ) (within : i < length bs) (before : digits_value 10 (take i bs) ≡ value) where
  -- the next byte, where it is a digit
  module _ (low : 48 ≤ get_or bs i 0) (high : get_or bs i 0 ≤ 57) where
    digit_is : digit_value (get_or bs i 0) ≡ get_or bs i 0 - 48
    digit_is = grind (arith, nat_tests)

    pub digits_so_far : AllDigits 10 (take i bs) → AllDigits 10 (take (i + 1) bs)
    digits_so_far digits = digits_more 10 bs i within digits (omega (arith, digit_is))

    pub value_more : digits_value 10 (take (i + 1) bs) ≡ value * 10 + (get_or bs i 0 - 48)
    value_more = digits_value_more 10 bs i within ∙ ap (λ v. v * 10 + digit_value (get_or bs i 0)) before ∙ ap (λ d. value * 10 + d) digit_is

    pub value_at_least : value * 10 + (get_or bs i 0 - 48) ≤ digits_value 10 bs
    value_at_least = omega (arith, value_more, digits_value-take-le 10 bs (i + 1) (omega arith))

pub zero_is_printed : (bs : List ℕ) → get_or bs 0 0 ≡ 48 → length bs ≡ 1 → bs ≡ decimal 0
zero_is_printed [] p l = absurd (omega arith)
zero_is_printed (b ∷ []) p l = ap (λ x. x ∷ []) p ∙ sym (decimal_digit 0 (omega arith))
zero_is_printed (b ∷ c ∷ bs) p l = absurd (omega arith)

pub decimal_is_word : (n : ℕ) → n < 2 ^ 64 → All (λ byte. byte ≢ 32) (decimal n)
decimal_is_word n h = All-from_get_or (λ byte. byte ≢ 32) (decimal n) 0 (λ i lt. let r = byte_at n i h lt in λ e. omega (arith, r.0))

-- a text begins with one index
pub one_index : (text : List ℕ) (i j : ℕ) (a b : List ℕ) → i < 2 ^ 64 → j < 2 ^ 64 → text ≡ decimal i ++ 32 ∷ a → text ≡ decimal j ++ 32 ∷ b → a ≡ b
one_index text i j a b hi hj e f = (one_cut text (decimal i) a (decimal j) b e (decimal_is_word i hi) f (decimal_is_word j hj)).1
