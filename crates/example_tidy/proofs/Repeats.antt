-- What dropping repeats does to a list.
use Rattle.std.proofs.Common.{◌≡◌, ◌∙◌, Bool, true, false, cond, List, [], ◌∷◌, ap, refl, sym}
use Rattle.std.specs.List.{dedup, dedup_from}

module _ {X : Type 0} (same : X → X → Bool) where
  -- what is kept behind an item that was kept
  abbrev pub kept_after : X → List X → List X
  kept_after last [] = []
  kept_after last (x ∷ xs) = cond (same x last) (kept_after last xs) (x ∷ kept_after x xs)

  pub dedup_from_kept : (last : X) (xs : List X) → dedup_from same last xs ≡ last ∷ kept_after last xs
  dedup_from_kept last [] = refl
  dedup_from_kept last (x ∷ xs) = by_test (same x last) (dedup_from_kept last xs) (dedup_from_kept x xs)
    where
      by_test : (b : Bool) → dedup_from same last xs ≡ last ∷ kept_after last xs → dedup_from same x xs ≡ x ∷ kept_after x xs
          → cond b (dedup_from same last xs) (last ∷ dedup_from same x xs) ≡ last ∷ cond b (kept_after last xs) (x ∷ kept_after x xs)
      by_test true skipped kept = skipped
      by_test false skipped kept = ap (λ rest. last ∷ rest) kept

  kept_twice : (last : X) (xs : List X) → kept_after last (kept_after last xs) ≡ kept_after last xs
  kept_twice last [] = refl
  kept_twice last (x ∷ xs) = by_test (same x last) refl (kept_twice last xs) (kept_twice x xs)
    where
      by_test : (b : Bool) → same x last ≡ b
          → kept_after last (kept_after last xs) ≡ kept_after last xs → kept_after x (kept_after x xs) ≡ kept_after x xs
          → kept_after last (cond b (kept_after last xs) (x ∷ kept_after x xs)) ≡ cond b (kept_after last xs) (x ∷ kept_after x xs)
      by_test true is skipped kept = skipped
      by_test false is skipped kept =
          ap (λ b. cond b (kept_after last (kept_after x xs)) (x ∷ kept_after x (kept_after x xs))) is
          ∙ ap (λ rest. x ∷ rest) kept

  -- dropping repeats twice is dropping them once
  pub dedup_twice : (xs : List X) → dedup same (dedup same xs) ≡ dedup same xs
  dedup_twice [] = refl
  dedup_twice (x ∷ xs) =
      ap (dedup same) (dedup_from_kept x xs) ∙ dedup_from_kept x (kept_after x xs)
      ∙ ap (λ rest. x ∷ rest) (kept_twice x xs) ∙ sym (dedup_from_kept x xs)
