-- A carriage return at the end of a line is a blank: its normal form is the same without it.
use Rattle.std.proofs.Common.{◌≡◌, ◌∙◌, ℕ, ◌+◌, ◌-◌, ◌<◌, ◌==◌, Bool, true, false, cond, List, [], ◌∷◌, ◌++◌, ap, refl, sym, map, length, take, get_or, arith, append-nil}
use Rattle.std.specs.List.{slice_split, onto_first, filter, dedup, join_with_byte}
use Rattle.std.specs.Char.{is_ascii_whitespace, to_ascii_lowercase}
use Rattle.std.specs.Str.{bytes_eq}
use Rattle.std.specs.Str.Lines.{strip_carriage_return}
use Rattle.std.proofs.lemmas.List.{map-append, take_all, take_more}
use Rattle.std.proofs.lemmas.List.Elements.{filter-append}
use Rattle.std.proofs.lemmas.List.Splits.{length-slice_split}
use Rattle.std.proofs.lemmas.Bool.{eqb-true}
use Rattle.example_tidy.specs.Tidy.{has_bytes, words, normal_line}

onto_first-append : {X : Type 0} (x : X) (parts more : List (List X)) → 0 < length parts → onto_first x (parts ++ more) ≡ onto_first x parts ++ more
onto_first-append x [] more some = absurd (omega arith)
onto_first-append x (part ∷ parts) more some = refl

-- an item that passes at the end makes one part more, and it is empty
slice_split_push : {X : Type 0} (p : X → Bool) (xs : List X) (x : X) → p x ≡ true → slice_split p (xs ++ x ∷ []) ≡ slice_split p xs ++ [] ∷ []
slice_split_push p [] x passes = ap (λ b. cond b ([] ∷ [] ∷ []) ((x ∷ []) ∷ [])) passes
slice_split_push p (y ∷ xs) x passes = by_test (p y) (slice_split_push p xs x passes)
  where
    by_test : (b : Bool) → slice_split p (xs ++ x ∷ []) ≡ slice_split p xs ++ [] ∷ []
        → cond b ([] ∷ slice_split p (xs ++ x ∷ [])) (onto_first y (slice_split p (xs ++ x ∷ []))) ≡ cond b ([] ∷ slice_split p xs) (onto_first y (slice_split p xs)) ++ [] ∷ []
    by_test true more = ap (λ parts. [] ∷ parts) more
    by_test false more = ap (onto_first y) more ∙ onto_first-append y (slice_split p xs) ([] ∷ []) (omega (arith, length-slice_split p xs))

-- a blank at the end of a line adds no word
words_push : (line : List ℕ) (blank : ℕ) → is_ascii_whitespace blank ≡ true → words (line ++ blank ∷ []) ≡ words line
words_push line blank is =
    ap (filter has_bytes) (slice_split_push is_ascii_whitespace line blank is)
    ∙ filter-append has_bytes (slice_split is_ascii_whitespace line) ([] ∷ []) ∙ append-nil (words line)

normal_line_push : (line : List ℕ) → normal_line (line ++ 13 ∷ []) ≡ normal_line line
unfolding normal_line
normal_line_push line =
    ap (λ found. join_with_byte 32 (dedup bytes_eq found))
    (ap words (map-append to_ascii_lowercase line (13 ∷ [])) ∙ words_push (map to_ascii_lowercase line) 13 refl)

ends_in : (line : List ℕ) → get_or line (length line - 1) 0 ≡ 13 → line ≡ take (length line - 1) line ++ 13 ∷ []
ends_in [] last = absurd (omega (arith, last))
ends_in (byte ∷ bytes) last =
    let line = byte ∷ bytes in
    sym (take_all (length line - 1 + 1) line (omega arith)) ∙ take_more line (length line - 1) 0 (omega arith) ∙ ap (λ b. take (length line - 1) line ++ b ∷ []) last

pub normal_line_stripped : (line : List ℕ) → normal_line (strip_carriage_return line) ≡ normal_line line
normal_line_stripped line = by_test (get_or line (length line - 1) 0 == 13) refl
  where
    by_test : (b : Bool) → (get_or line (length line - 1) 0 == 13) ≡ b → normal_line (cond b (take (length line - 1) line) line) ≡ normal_line line
    by_test true is =
        sym (normal_line_push (take (length line - 1) line)) ∙ ap normal_line (sym (ends_in line (eqb-true _ 13 is)))
    by_test false is = refl
