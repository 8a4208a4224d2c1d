-- What slots hold when some of them are lent for writing. What is written is cut to the length of the part, or filled up from it.
use Rattle.std.proofs.Common.{◌≡◌, ℕ, ◌-◌, List, ◌++◌, length, take, drop, slice_range, sym, ap, take_at}
use Rattle.std.specs.List.{refill}

-- xs with its first n elements replaced by ws
abbrev pub with_front : {X : Type 0} → List X → ℕ → List X → List X
with_front xs n ws = refill n (take n xs) ws ++ drop n xs

-- xs with all after its first n elements replaced by ws
abbrev pub with_back : {X : Type 0} → List X → ℕ → List X → List X
with_back xs n ws = take n xs ++ refill (length (drop n xs)) (drop n xs) ws

-- xs with its elements from i up to j replaced by ws
abbrev pub with_part : {X : Type 0} → List X → ℕ → ℕ → List X → List X
with_part xs i j ws = take i xs ++ refill (j - i) (slice_range xs i j) ws ++ drop j xs

-- what is as long as the part is put in whole
pub with_front-as_long : {X : Type 0} (xs ws : List X) (n : ℕ) → length ws ≡ n → ws ++ drop n xs ≡ with_front xs n ws
with_front-as_long xs ws n long = ap (λ l. l ++ drop n xs) (sym (take_at ws (drop (length ws) (take n xs)) n long))
