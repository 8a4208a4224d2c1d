-- The words of a line.
use Rattle.std.proofs.Common.{◌≡◌, ℕ, ◌<◌, ◌==◌, Bool, true, false, if◌then◌else◌, List, [], ◌∷◌, zero, suc, length, drop, slice_index, Option, None, Some, is_some, Bor, ap, refl, arith}
use Rattle.std.specs.Option.{option_copied}
use Rattle.std.specs.Str.{IsUtf8, IsAscii}
use Rattle.std.specs.Str.Parse.{AllDigits, without_leading_plus}
use Rattle.std.proofs.lemmas.Bool.{eqb-true}
use Rattle.std.proofs.lemmas.Str.{IsUtf8-from_ascii}
use Rattle.std.proofs.lemmas.Str.Parse.{digit_from_value}
use Rattle.example_dns_query.specs.Line.{words}
use Rattle.example_dns_query.specs.Parts.{parts_left}
use Rattle.example_dns_query.proofs.PartsLemmas.{some_part}

digits_are_ascii : (word : List ℕ) → AllDigits 10 word → IsAscii word
digits_are_ascii [] digits i = omega arith
digits_are_ascii (byte ∷ word) digits zero = let digit = digit_from_value byte digits.0 in omega (arith, digit)
digits_are_ascii (byte ∷ word) digits (suc i) = digits_are_ascii word digits.1 i

word_is_ascii : (word : List ℕ) (plus : Bool) → (slice_index word 0 == 43) ≡ plus → AllDigits 10 (drop (if plus then 1 else 0) word) → IsAscii word
word_is_ascii [] true is digits i = omega arith
word_is_ascii (byte ∷ word) true is digits zero = let same = eqb-true byte 43 is in omega (arith, same)
word_is_ascii (byte ∷ word) true is digits (suc i) = digits_are_ascii word digits i
word_is_ascii word false is digits i = digits_are_ascii word digits i

-- a word that spells a number is text
pub digits_are_text : (word : List ℕ) → AllDigits 10 (without_leading_plus word) → IsUtf8 word
digits_are_text word digits = IsUtf8-from_ascii word (word_is_ascii word (slice_index word 0 == 43) refl digits)

-- where there is text, there is a part
pub some_left : (s : ℕ) (left : Option (Bor (List ℕ))) → is_some left ≡ true → 0 < length (parts_left s (option_copied left))
some_left s None is = absurd cc
some_left s (Some text) is = some_part s text.now

-- more than three words
pub not_three : (line first second third : List ℕ) (left : List (List ℕ)) → words line ≡ first ∷ second ∷ third ∷ left → 0 < length left
    → length (words line) ≡ 3 → ⊥
not_three line first second third left are some three = let more = ap length are in omega (arith, more)
