-- Words that are said one behind another, each behind a space.
use Rattle.std.proofs.Common.{◌≡◌, ◌≢◌, ◌∙◌, ℕ, ◌≤◌, false, cond, List, [], ◌∷◌, ◌++◌, inl, inr, arith, ap, sym, append_assoc, append-nil, length, length-append}
use Rattle.std.specs.List.{dedup, flat_map, join_with_byte}
use Rattle.std.specs.Str.{bytes_eq}
use Rattle.std.proofs.lemmas.Bool.{cases_Bool}
use Rattle.std.proofs.lemmas.Slice.Eq.{bytes_eq-Decides}
use Rattle.example_tidy.proofs.Repeats.{kept_after, dedup_from_kept}

-- what is said of these words behind a word
abbrev pub said : List ℕ → List (List ℕ) → List ℕ
said last words = flat_map (λ word. 32 ∷ word) (kept_after bytes_eq last words)

join_first : (word : List ℕ) (words : List (List ℕ)) → join_with_byte 32 (word ∷ words) ≡ word ++ flat_map (λ next. 32 ∷ next) words
join_first word [] = sym (append-nil word)
join_first word (next ∷ words) = ap (λ rest. word ++ 32 ∷ rest) (join_first next words)

-- the first word, and what is said behind it
pub said_all : (word : List ℕ) (words : List (List ℕ)) → join_with_byte 32 (dedup bytes_eq (word ∷ words)) ≡ word ++ said word words
said_all word words = ap (join_with_byte 32) (dedup_from_kept bytes_eq word words) ∙ join_first word (kept_after bytes_eq word words)

said_same : (last word : List ℕ) (words : List (List ℕ)) → word ≡ last → said last (word ∷ words) ≡ said last words
said_same last word words same =
    ap (λ b. flat_map (λ next. 32 ∷ next) (cond b (kept_after bytes_eq last words) (word ∷ kept_after bytes_eq word words)))
    ((bytes_eq-Decides word last).1 same)

differs : (word last : List ℕ) → word ≢ last → bytes_eq word last ≡ false
differs word last other = elim (cases_Bool (bytes_eq word last)) [
  | inl same ↦ absurd (other ((bytes_eq-Decides word last).0 same))
  | inr no' ↦ no'
]

said_new : (last word : List ℕ) (words : List (List ℕ)) → word ≢ last → said last (word ∷ words) ≡ 32 ∷ word ++ said word words
said_new last word words other =
    ap (λ b. flat_map (λ next. 32 ∷ next) (cond b (kept_after bytes_eq last words) (word ∷ kept_after bytes_eq word words)))
    (differs word last other)

-- a word that repeats the one before it is passed over
pub passed : (front last word all : List ℕ) (left more : List (List ℕ)) → left ≡ word ∷ more → word ≡ last
    → front ++ said last left ≡ all → front ++ said last more ≡ all
passed front last word all left more next same so_far =
    ap (λ back. front ++ back) (sym (ap (said last) next ∙ said_same last word more same)) ∙ so_far

-- another word is said
pub spoken : (front last word all : List ℕ) (left more : List (List ℕ)) → left ≡ word ∷ more → word ≢ last
    → front ++ said last left ≡ all → (front ++ 32 ∷ word) ++ said word more ≡ all
spoken front last word all left more next other so_far =
    append_assoc front (32 ∷ word) (said word more)
    ∙ ap (λ back. front ++ back) (sym (ap (said last) next ∙ said_new last word more other)) ∙ so_far

-- a space and a word behind a front
pub spaced : (old front word text more grown : List ℕ) → text ≡ old ++ front → more ≡ text ++ 32 ∷ [] → grown ≡ more ++ word
    → grown ≡ old ++ (front ++ 32 ∷ word)
spaced old front word text more grown is space long =
    long ∙ ap (λ b. b ++ word) (space ∙ ap (λ b. b ++ 32 ∷ []) is ∙ append_assoc old front (32 ∷ []))
    ∙ append_assoc old (front ++ 32 ∷ []) word ∙ ap (λ b. old ++ b) (append_assoc front (32 ∷ []) word)

-- the first word has its place in what is said in all
pub first_fits : (word : List ℕ) (words : List (List ℕ)) → length word ≤ length (join_with_byte 32 (dedup bytes_eq (word ∷ words)))
first_fits word words = omega (arith, ap length (said_all word words), length-append word (said word words))
