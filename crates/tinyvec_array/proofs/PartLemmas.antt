-- What is written to a part of slots, if it is as long as the part.
use Rattle.std.proofs.Common.{◌≡◌, ◌∙◌, ℕ, ◌-◌, ◌<◌, ◌≤◌, List, ◌++◌, length, set, take, drop, slice_range, sym, ap, arith, take_at, length-take-le, length-set, drop-set-lt, take-append-drop}
use Rattle.std.proofs.Math.Seq.{take-set-lt}
use Rattle.tinyvec_array.specs.SliceParts.{with_back, with_part}

pub with_back-as_long : {X : Type 0} (xs ws : List X) (n : ℕ) → length ws ≡ length (drop n xs) → take n xs ++ ws ≡ with_back xs n ws
with_back-as_long xs ws n long = ap (λ l. take n xs ++ l) (sym (take_at ws (drop (length ws) (drop n xs)) (length (drop n xs)) long))

pub with_part-as_long : {X : Type 0} (xs ws : List X) (i j : ℕ) → length ws ≡ j - i → take i xs ++ ws ++ drop j xs ≡ with_part xs i j ws
with_part-as_long xs ws i j long = ap (λ l. take i xs ++ l ++ drop j xs) (sym (take_at ws (drop (length ws) (slice_range xs i j)) (j - i) long))

-- the last element of a front is put in as that of the whole
pub with_part-last : {X : Type 0} (xs front : List X) (n : ℕ) (x : X) → front ≡ slice_range xs 0 n → 0 < n → n ≤ length xs
    → with_part xs 0 n (set front (length front - 1) x) ≡ set xs (n - 1) x
with_part-last xs front n x is pos le =
    let whole = set xs (n - 1) x in
    let part = set (take n xs) (n - 1) x in
    let all : n - 0 ≡ n = omega (arith) in
    let taken : front ≡ take n xs = is ∙ ap (λ k. take k xs) all in
    let long = length-take-le n xs le in
    let lt : n - 1 < n = omega (arith, pos) in
    ap (λ l. with_part xs 0 n (set l (length l - 1) x)) taken
    ∙ ap (λ k. with_part xs 0 n (set (take n xs) (k - 1) x)) long
    ∙ sym (with_part-as_long xs part 0 n (length-set (take n xs) (n - 1) x ∙ long ∙ sym all))
    ∙ ap (λ l. l ++ drop n xs) (sym (take-set-lt n xs (n - 1) x lt))
    ∙ ap (λ l. take n whole ++ l) (sym (drop-set-lt n xs (n - 1) x lt))
    ∙ take-append-drop n whole
