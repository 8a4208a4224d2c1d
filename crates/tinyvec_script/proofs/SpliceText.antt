-- The text of a splice: its word of ends and its numbers.
use Rattle.std.proofs.Common.{◌≡◌, ◌≢◌, ◌⊎◌, inl, inr, ℕ, suc, ◌<◌, ◌^◌, List, [], ◌∷◌, ◌++◌, length, map, refl, sym, ap, ◌∙◌, arith, ℤ, pos, negsuc, FitsSigned, codes}
use Rattle.std.specs.Int.{w32}
use Rattle.std.proofs.lemmas.Fmt.{decimal_nonempty}
use Rattle.std.specs.List.{All, AllByRecursion}
use Rattle.std.specs.Fmt.{decimal, signed_decimal}
use Rattle.std.proofs.lemmas.List.Elements.{All-from_recursion, recursion_from_All, All-cons, All-nil, All-head, All-tail}
use Rattle.tinyvec_script.specs.Words.{StartsBlank, IsLetter}
use Rattle.tinyvec_script.specs.Command.{letter_code, word_text, numbers_text}
use Rattle.tinyvec_script.specs.declared.call.End.{End}
use Rattle.tinyvec_script.specs.declared.call.End.TheVariants.{Front, Back}
use Rattle.tinyvec_script.proofs.Indices.{decimal_is_word}
use Rattle.tinyvec_script.proofs.Numbers.{mag_small}
use Rattle.tinyvec_script.proofs.Words.{one_split}

-- numbers begin with a blank, if there are any
pub numbers_blank : (numbers : List ℤ) → StartsBlank (numbers_text numbers)
numbers_blank [] = tt
numbers_blank (number ∷ numbers) = refl

-- no blank stands in a number
pub number_is_word : (number : ℤ) → FitsSigned w32 number → All (λ byte. byte ≢ 32) (signed_decimal number)
number_is_word (pos n) fits = let small : n < 2 ^ 63 = mag_small (pos n) fits in decimal_is_word n (omega (arith, small))
number_is_word (negsuc n) fits =
    let small : n < 2 ^ 63 = mag_small (negsuc n) fits in
    All-cons (λ byte. byte ≢ 32) 45 (decimal (suc n)) (λ e. omega (arith, e)) (decimal_is_word (suc n) (omega (arith, small)))

-- nor is one empty
pub number_some : (number : ℤ) → FitsSigned w32 number → 0 < length (signed_decimal number)
number_some (pos n) fits = let small : n < 2 ^ 63 = mag_small (pos n) fits in decimal_nonempty n (omega (arith, small))
number_some (negsuc n) fits = omega arith

pub letter_is : (letter : End) → IsLetter (letter_code letter)
letter_is Front = inl refl
letter_is Back = inr refl

letters_are : (word : List End) → AllByRecursion IsLetter (map letter_code word)
letters_are [] = tt
letters_are (letter ∷ word) = (letter_is letter, letters_are word)

-- a word is a dash, or letters
pub word_is : (word : List End) → (word_text word ≡ codes "-") ⊎ (All IsLetter (word_text word) × (0 < length word) × (word_text word ≡ map letter_code word))
word_is [] = inl refl
word_is (letter ∷ word) =
    let all : AllByRecursion IsLetter (word_text (letter ∷ word)) = (letter_is letter, letters_are word) in
    inr (All-from_recursion IsLetter (word_text (letter ∷ word)) all, omega arith, refl)

-- letters are a word
word_from : (text : List ℕ) → AllByRecursion IsLetter text → (word : List End) × (text ≡ map letter_code word)
word_from [] all = ([], refl)
word_from (byte ∷ text) all =
    let rest = word_from text all.1 in
    letter_from byte all.0 rest
  where
    letter_from : (byte : ℕ) → IsLetter byte → ((word : List End) × (text ≡ map letter_code word)) → (word : List End) × (byte ∷ text ≡ map letter_code word)
    letter_from byte (inl e) rest = (Front ∷ rest.0, ap (λ b. b ∷ text) e ∙ ap (λ l. 102 ∷ l) rest.1)
    letter_from byte (inr e) rest = (Back ∷ rest.0, ap (λ b. b ∷ text) e ∙ ap (λ l. 98 ∷ l) rest.1)

-- the text of a word is not empty
pub word_some : (text : List ℕ) (word : List End) → text ≡ word_text word → 0 < length text
word_some text [] e = rw e (omega arith)
word_some text (letter ∷ word) e = rw e (omega arith)

pub some_word : (text : List ℕ) → 0 < length text → (word : List End) → text ≡ map letter_code word → text ≡ word_text word
some_word text some [] e = absurd (let none = ap length e in omega arith)
some_word text some (letter ∷ word) e = e

pub is_word_from : (text : List ℕ) → 0 < length text → All IsLetter text → (word : List End) × (text ≡ word_text word)
is_word_from text some all =
    let word = word_from text (recursion_from_All IsLetter text all) in
    (word.0, some_word text some word.0 word.1)

letters_have_no_blank : (word : List End) → AllByRecursion (λ byte. byte ≢ 32) (map letter_code word)
letters_have_no_blank [] = tt
letters_have_no_blank (Front ∷ word) = ((λ e. omega (arith, e)), letters_have_no_blank word)
letters_have_no_blank (Back ∷ word) = ((λ e. omega (arith, e)), letters_have_no_blank word)

pub word_has_no_blank : (word : List End) → All (λ byte. byte ≢ 32) (word_text word)
word_has_no_blank [] = All-cons (λ byte. byte ≢ 32) 45 [] (λ e. omega (arith, e)) (All-nil (λ byte. byte ≢ 32))
word_has_no_blank (letter ∷ word) = All-from_recursion (λ byte. byte ≢ 32) (word_text (letter ∷ word)) (letters_have_no_blank (letter ∷ word))

-- the text of numbers, where a blank was taken off it and it was parted behind the first number
pub numbers_parted : (text number rest : List ℕ) → All (λ byte. byte ≢ 32) number → StartsBlank rest → text ≡ 32 ∷ (number ++ rest) → (numbers : List ℤ) → All (FitsSigned w32) numbers
    → text ≡ numbers_text numbers → (first : ℤ) × (others : List ℤ) × FitsSigned w32 first × All (FitsSigned w32) others × (number ≡ signed_decimal first) × (rest ≡ numbers_text others)
numbers_parted text number rest word blank is [] fits e = absurd (let no : 32 ∷ (number ++ rest) ≡ [] = sym is ∙ e in cc)
numbers_parted text number rest word blank is (first ∷ others) fits e =
    let whole : 32 ∷ (number ++ rest) ≡ 32 ∷ (signed_decimal first ++ numbers_text others) = sym is ∙ e in
    let both : number ++ rest ≡ signed_decimal first ++ numbers_text others = cc in
    let own : FitsSigned w32 first = All-head (FitsSigned w32) first others fits in
    let parts = one_split (number ++ rest) number rest (signed_decimal first) (numbers_text others) refl word blank both (number_is_word first own) (numbers_blank others) in
    (first, others, own, All-tail (FitsSigned w32) first others fits, parts.0, parts.1)

-- a text that does not begin with a blank, and is not empty, is no text of numbers
pub numbers_begin : (text : List ℕ) → 0 < length text → (numbers : List ℤ) → text ≡ numbers_text numbers → (rest : List ℕ) × (text ≡ 32 ∷ rest)
numbers_begin text some [] e = absurd (let none = ap length e in omega arith)
numbers_begin text some (first ∷ others) e = (signed_decimal first ++ numbers_text others, e)
