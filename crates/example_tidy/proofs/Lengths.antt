-- A normal form is no longer than its line, and lower case has as many words.
use Rattle.std.proofs.Common.{◌≡◌, ℕ, ◌+◌, ◌-◌, ◌<◌, ◌≤◌, Bool, true, false, cond, List, [], ◌∷◌, refl, map, length, arith}
use Rattle.std.specs.List.{slice_split, onto_first, filter, dedup, dedup_from, join_with_byte}
use Rattle.std.specs.Char.{is_ascii_whitespace, to_ascii_lowercase}
use Rattle.std.specs.Str.{bytes_eq}
use Rattle.std.proofs.lemmas.List.{length-append, length-map}
use Rattle.std.proofs.lemmas.List.Splits.{length-slice_split}
use Rattle.example_tidy.specs.Tidy.{has_bytes, words, normal_words, normal_line}

-- the bytes of the pieces, and one more for each
abbrev size : List (List ℕ) → ℕ
size [] = 0
size (piece ∷ pieces) = length piece + 1 + size pieces

size-onto_first : (x : ℕ) (parts : List (List ℕ)) → 0 < length parts → size (onto_first x parts) ≡ size parts + 1
size-onto_first x [] some = absurd (omega arith)
size-onto_first x (part ∷ parts) some = omega arith

size-slice_split : (p : ℕ → Bool) (xs : List ℕ) → size (slice_split p xs) ≡ length xs + 1
size-slice_split p [] = refl
size-slice_split p (x ∷ xs) = by_test (p x) (size-slice_split p xs)
  where
    by_test : (b : Bool) → size (slice_split p xs) ≡ length xs + 1
        → size (cond b ([] ∷ slice_split p xs) (onto_first x (slice_split p xs))) ≡ length (x ∷ xs) + 1
    by_test true rest = omega (arith, rest)
    by_test false rest = omega (arith, rest, size-onto_first x (slice_split p xs) (omega (arith, length-slice_split p xs)))

size-filter : (keep : List ℕ → Bool) (pieces : List (List ℕ)) → size (filter keep pieces) ≤ size pieces
size-filter keep [] = omega arith
size-filter keep (piece ∷ pieces) = by_test (keep piece) (size-filter keep pieces)
  where
    by_test : (b : Bool) → size (filter keep pieces) ≤ size pieces
        → size (cond b (piece ∷ filter keep pieces) (filter keep pieces)) ≤ size (piece ∷ pieces)
    by_test true rest = omega (arith, rest)
    by_test false rest = omega (arith, rest)

size-dedup_from : (same : List ℕ → List ℕ → Bool) (last : List ℕ) (pieces : List (List ℕ)) → size (dedup_from same last pieces) ≤ size (last ∷ pieces)
size-dedup_from same last [] = omega arith
size-dedup_from same last (piece ∷ pieces) = by_test (same piece last) (size-dedup_from same last pieces) (size-dedup_from same piece pieces)
  where
    by_test : (b : Bool) → size (dedup_from same last pieces) ≤ size (last ∷ pieces) → size (dedup_from same piece pieces) ≤ size (piece ∷ pieces)
        → size (cond b (dedup_from same last pieces) (last ∷ dedup_from same piece pieces)) ≤ size (last ∷ piece ∷ pieces)
    by_test true skipped kept = omega (arith, skipped)
    by_test false skipped kept = omega (arith, kept)

size-dedup : (same : List ℕ → List ℕ → Bool) (pieces : List (List ℕ)) → size (dedup same pieces) ≤ size pieces
size-dedup same [] = omega arith
size-dedup same (piece ∷ pieces) = size-dedup_from same piece pieces

length-join : (c : ℕ) (pieces : List (List ℕ)) → length (join_with_byte c pieces) ≤ size pieces - 1
length-join c [] = omega arith
length-join c (piece ∷ []) = omega arith
length-join c (piece ∷ next ∷ pieces) =
    omega (arith, length-join c (next ∷ pieces), length-append piece (c ∷ join_with_byte c (next ∷ pieces)))

-- the normal form of a line is no longer than the line
pub length-normal_line : (line : List ℕ) → length (normal_line line) ≤ length line
unfolding normal_line
length-normal_line line =
    let low = map to_ascii_lowercase line in
    let parts = slice_split is_ascii_whitespace low in
    omega (arith, length-join 32 (normal_words line), size-dedup bytes_eq (words low), size-filter has_bytes parts, size-slice_split is_ascii_whitespace low, length-map line to_ascii_lowercase)
