-- Lemmas on items that change their places by swaps.
use Rattle.std.proofs.Common.{◌≡◌, ◌≢◌, ℕ, suc, ◌-◌, ◌+◌, ◌<◌, ◌≤◌, List, [], ◌∷◌, ◌++◌, length, get_or, take, drop, slice_range, inl, inr, sym, ap, ◌∙◌, arith, append_assoc, append-nil}
use Rattle.std.specs.List.{SwappedAt}
use Rattle.std.proofs.lemmas.Grind.{drop_more_same}
use Rattle.std.proofs.lemmas.List.Edits.{between_none, between_more}
use Rattle.std.proofs.lemmas.Slice.{between_to_end}
use Rattle.tinyvec_slots.proofs.Lists.{an_element, same_at}
use Rattle.std.proofs.lemmas.Bool.{cases_eq}
use Rattle.std.proofs.lemmas.List.{same_lists, places, get_or_default, drop_more, drop_all}

-- where the items at i and j stand in each other's place
module _ {X : Type 0} (xs ys : List X) (i j : ℕ) (le : i ≤ j) (within : j < length xs) (long : length ys ≡ length xs) (is : SwappedAt xs ys i j) (d : X) where
  -- up to i
  pub take-swapped : take (i + 1) ys ≡ take i xs ++ get_or xs j d ∷ []
  take-swapped =
      same_lists _ _ (grind (arith, places, long)) (λ k e h. grind (arith, places, cases_eq k i, is.0 e, is.2 k e, get_or_default xs j d e))

  -- behind j
  pub drop-swapped : drop (j + 1) ys ≡ drop (j + 1) xs
  drop-swapped = same_lists _ _ (grind (arith, places, long)) (λ k e h. grind (arith, places, is.2 (j + 1 + k) e))

  -- from a place between them up to j
  pub slice_range-swapped : (m : ℕ) → i < m → m ≤ j → slice_range ys m (j + 1) ≡ slice_range xs m j ++ get_or xs i d ∷ []
  slice_range-swapped m above below =
      same_lists _ _ (grind (arith, places, long)) (λ k e h. grind (arith, places, cases_eq (m + k) j, is.1 e, is.2 (m + k) e, get_or_default xs i d e))

  -- and up to that place
  pub slice_range-between : (m : ℕ) → i < m → m ≤ j → slice_range ys (i + 1) m ≡ slice_range xs (i + 1) m
  slice_range-between m above below = same_lists _ _ (grind (arith, places, long)) (λ k e h. grind (arith, places, is.2 (i + 1 + k) e))

-- what three parts of a list are to be turned into: what stands from next on first, what stands from first on last
abbrev pub turned : {X : Type 0} → List X → ℕ → ℕ → ℕ → List X
turned xs first middle next = take first xs ++ drop next xs ++ slice_range xs middle next ++ slice_range xs first middle

-- one swap brings an item of the last part into its place
module _ {X : Type 0} (xs ys : List X) (first middle next : ℕ) (some : first < middle) (behind : middle ≤ next)
    (within : next < length xs) (long : length ys ≡ length xs) (is : SwappedAt xs ys first next) (d : X) where
  pub turned_more : turned ys (first + 1) middle (next + 1) ≡ turned xs first middle next
  turned_more =
      let p = get_or xs first d in
      let r = get_or xs next d in
      let left : take (first + 1) ys ≡ take first xs ++ r ∷ [] = take-swapped xs ys first next (omega arith) within long is d in
      let right : drop (next + 1) ys ≡ drop (next + 1) xs = drop-swapped xs ys first next (omega arith) within long is d in
      let mid : slice_range ys middle (next + 1) ≡ slice_range xs middle next ++ p ∷ [] = slice_range-swapped xs ys first next (omega arith) within long is d middle some behind in
      let rest : slice_range ys (first + 1) middle ≡ slice_range xs (first + 1) middle = slice_range-between xs ys first next (omega arith) within long is d middle some behind in
      let from_next : drop next xs ≡ r ∷ drop (next + 1) xs = drop_more xs next d within in
      let count : middle - first ≡ suc (middle - (first + 1)) = omega arith in
      let from_first : slice_range xs first middle ≡ p ∷ slice_range xs (first + 1) middle = rw (drop_more xs first d (omega arith), count) in
      rw (left, right, mid, rest, from_next, from_first) (simp append_assoc)

-- the same where no value is at hand
pub turned_step : {X : Type 0} (xs ys : List X) (first middle next : ℕ) → first < middle → middle ≤ next → next < length xs
    → length ys ≡ length xs → SwappedAt xs ys first next → turned ys (first + 1) middle (next + 1) ≡ turned xs first middle next
turned_step xs ys first middle next some behind within long is = turned_more xs ys first middle next some behind within long is (an_element xs next within)

-- a part that ran out gives way to the next one
module _ {X : Type 0} (xs : List X) where
  pub turned_last : (m n : ℕ) → turned xs m m n ≡ turned xs m n n
  turned_last m n = rw (between_none xs m, between_none xs n) (simp append-nil)

  pub turned_first : (f m n : ℕ) → m ≤ n → n ≡ length xs → turned xs f m n ≡ turned xs f m m
  turned_first f m n behind all = rw (between_to_end xs m n (omega arith), drop_all n xs (omega arith), between_none xs m) (simp append-nil)

-- where the parts begin once a part that ran out gave way
module _ {X : Type 0} (xs : List X) (f m n a b : ℕ) (le : f ≤ m) (behind : m ≤ n) (within : n ≤ length xs)
    (last : f ≡ m → (a ≡ n) × (b ≡ n)) (first : f ≢ m → n ≡ length xs → (a ≡ m) × (b ≡ m))
    (neither : f ≢ m → n ≢ length xs → (a ≡ m) × (b ≡ n)) where
  pub turned_after : turned xs f a b ≡ turned xs f m n
  turned_after =
      elim (cases_eq f m) [
        | inl same ↦
            ap (λ k. turned xs f k b) (last same).0 ∙ ap (turned xs f n) (last same).1 ∙ ap (λ k. turned xs k n n) same
            ∙ sym (turned_last xs m n) ∙ ap (λ k. turned xs k m n) (sym same)
        | inr other ↦ elim (cases_eq n (length xs)) [
          | inl all ↦
              let is = first other all in
              ap (λ k. turned xs f k b) is.0 ∙ ap (turned xs f m) is.1 ∙ sym (turned_first xs f m n behind all)
          | inr more ↦
              let is = neither other more in
              ap (λ k. turned xs f k b) is.0 ∙ ap (turned xs f m) is.1
        ]
      ]

  pub borders_after : (f ≤ a) × (a ≤ b) × (b ≤ length xs) × (f ≡ a → b ≡ a) × (b ≡ length xs → b ≡ a)
  borders_after =
      elim (cases_eq f m) [
        | inl same ↦ (let is = last same in (omega (arith, is.0), omega (arith, is.0, is.1), omega (arith, is.1), λ e. is.1 ∙ sym is.0, λ e. is.1 ∙ sym is.0))
        | inr other ↦ elim (cases_eq n (length xs)) [
          | inl all ↦ (let is = first other all in (omega (arith, is.0), omega (arith, is.0, is.1), omega (arith, is.1), λ e. is.1 ∙ sym is.0, λ e. is.1 ∙ sym is.0))
          | inr more ↦ (let is = neither other more in (omega (arith, is.0), omega (arith, is.0, is.1), omega (arith, is.1), λ e. absurd (other (e ∙ is.0)), λ e. absurd (more (sym is.1 ∙ e))))
        ]
      ]

-- one more item behind a gap is moved down over it
module _ {X : Type 0} (first xs ys : List X) (i j : ℕ) (le : i ≤ j) (within : j < length xs) (same : length xs ≡ length first) (long : length ys ≡ length xs) where
  pub closed_more : (at back : ℕ) → back ≤ j → SwappedAt xs ys i j → drop j xs ≡ drop j first
      → take i xs ≡ take at first ++ slice_range first back j
      → (take (i + 1) ys ≡ take at first ++ slice_range first back (j + 1)) × (drop (j + 1) ys ≡ drop (j + 1) first)
  closed_more at back above is rest kept =
      let d : X = an_element xs j within in
      let item : get_or xs j d ≡ get_or first j d = same_at xs first j d rest in (
        rw (take-swapped xs ys i j le within long is d, kept, item, between_more first back j d above (omega (arith, same)), append_assoc),
        drop-swapped xs ys i j le within long is d ∙ drop_more_same xs first j rest,
      )
