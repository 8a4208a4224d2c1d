-- A lemma on a range that was replaced on the heap.
use Rattle.std.proofs.Common.{◌≡◌, ℕ, ◌+◌, ◌-◌, ◌≤◌, List, ◌++◌, take, drop, slice_range, length, arith, rules}
use Rattle.std.proofs.lemmas.List.{same_lists, places}

-- new elements were appended to a list, which is then k long, those behind the range that they were to replace were moved, and the list was cut
pub put_on_heap : {X : Type 0} (xs new ys seen zs : List X) (i j n k : ℕ) → n ≡ length xs → k ≡ length ys → i ≤ j → j ≤ n → ys ≡ xs ++ drop (j - i) new → seen ≡ ys
    → zs ≡ take i seen ++ new ++ slice_range seen j n ++ drop (i + length new + (n - j)) seen
    → take (n - (j - i) + length new) (take k (zs ++ drop (length zs) ys)) ≡ take i xs ++ new ++ drop j xs
put_on_heap xs new ys seen zs i j n k is all le inside longer same put =
    rw (put, same, all, longer) (same_lists _ _ (search (rules, places, is)) (λ e d h. grind (arith, places, is)))
