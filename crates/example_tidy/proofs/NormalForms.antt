-- A normal form is its own normal form.
use Rattle.std.proofs.Common.{◌≡◌, ◌≢◌, ◌∙◌, ℕ, true, false, List, [], ◌∷◌, ap, refl, map, All, arith, get_or}
use Rattle.std.specs.List.{dedup, filter, join_with_byte, slice_split}
use Rattle.std.specs.Char.{is_ascii_whitespace, to_ascii_lowercase}
use Rattle.std.specs.Str.{bytes_eq}
use Rattle.std.proofs.lemmas.List.Elements.{All-filter, All-head, All-tail, All-map, filter_passes}
use Rattle.std.proofs.lemmas.List.Filters.{All-dedup}
use Rattle.std.proofs.lemmas.Str.Ascii.{lowercase-lowercase}
use Rattle.example_tidy.specs.Tidy.{has_bytes, words, normal_words, normal_line}
use Rattle.example_tidy.proofs.Repeats.{dedup_twice}
use Rattle.example_tidy.proofs.Splitting.{All-split, All-join, filter_split_join}

-- the byte is in lower case, or no letter
abbrev IsLow : ℕ → Type 0
IsLow byte = to_ascii_lowercase byte ≡ byte

abbrev IsPlain : ℕ → Type 0
IsPlain byte = is_ascii_whitespace byte ≡ false

-- the byte ends no line
abbrev pub EndsNone : ℕ → Type 0
EndsNone byte = (byte ≢ 10) × (byte ≢ 13)

EndsNone-plain : (byte : ℕ) → IsPlain byte → EndsNone byte
EndsNone-plain byte plain = (λ is. absurd (cc), λ is. absurd (cc))

low_same : (bytes : List ℕ) → All IsLow bytes → map to_ascii_lowercase bytes ≡ bytes
low_same [] low = refl
low_same (byte ∷ bytes) low =
    ap (λ first. first ∷ map to_ascii_lowercase bytes) (All-head IsLow byte bytes low)
    ∙ ap (λ rest. byte ∷ rest) (low_same bytes (All-tail IsLow byte bytes low))

-- what holds of every byte of a part with no blank holds of every byte of the normal words
All-normal : (Q : ℕ → Type 0) (line : List ℕ) → All (λ byte. IsPlain byte → Q byte) (map to_ascii_lowercase line) → All (All Q) (normal_words line)
All-normal Q line each =
    All-dedup bytes_eq (All Q) _ (All-filter has_bytes (All Q) _ (All-split is_ascii_whitespace Q _ each))

low_words : (line : List ℕ) → All (All IsLow) (normal_words line)
low_words line = All-normal IsLow line (All-map (λ byte. IsPlain byte → IsLow byte) to_ascii_lowercase line
    (λ k d inside plain. lowercase-lowercase (get_or line k d)))

plain_words : (line : List ℕ) → All (All IsPlain) (normal_words line)
plain_words line = All-normal IsPlain line (λ k d inside plain. plain)

some_words : (line : List ℕ) → All (λ word. has_bytes word ≡ true) (normal_words line)
some_words line =
    let parts = slice_split is_ascii_whitespace (map to_ascii_lowercase line) in
    All-dedup bytes_eq (λ word. has_bytes word ≡ true) (filter has_bytes parts) (filter_passes has_bytes parts)

-- no line ends within a normal form
pub ends_none : (line : List ℕ) → All EndsNone (normal_line line)
unfolding normal_line
ends_none line = All-join EndsNone 32 (normal_words line) (omega arith, omega arith)
    (All-normal EndsNone line (λ k d inside plain. EndsNone-plain (get_or (map to_ascii_lowercase line) k d) plain))

-- the words of a normal form
words_again : (line : List ℕ) → words (map to_ascii_lowercase (normal_line line)) ≡ normal_words line
unfolding normal_line
words_again line =
    ap words (low_same (normal_line line) (All-join IsLow 32 (normal_words line) refl (low_words line)))
    ∙ filter_split_join is_ascii_whitespace has_bytes 32 (normal_words line) refl refl (plain_words line) (some_words line)

-- normalising twice is normalising once
pub normal_line_twice : (line : List ℕ) → normal_line (normal_line line) ≡ normal_line line
unfolding normal_line
normal_line_twice line =
    ap (λ found. join_with_byte 32 (dedup bytes_eq found)) (words_again line)
    ∙ ap (join_with_byte 32) (dedup_twice bytes_eq (words (map to_ascii_lowercase line)))
