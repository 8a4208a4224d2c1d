-- A buffer that is filled piece by piece.
use Rattle.std.proofs.Common.{◌≡◌, ℕ, ◌+◌, ◌<◌, ◌≤◌, List, ◌++◌, length, take, drop, get_or, arith, length-take-le, length-drop, take-add, take-take, take_at, drop_at}
use Rattle.std.specs.List.{AllByRecursion}
use Rattle.std.proofs.lemmas.List.Elements.{All-from_get_or, All-take, recursion_from_All}
use Rattle.std.proofs.lemmas.Slice.{take-put_mid}
use borrow.Rule.Slice.PartMut.{put_mid, same_len_mid}

-- the first n bytes of what was written behind the first ones
pub take-part : (f k n : ℕ) (xs ys : List ℕ) → f + k ≤ length xs → length ys ≡ k → n ≤ k → take (f + n) (put_mid f k xs ys) ≡ take f xs ++ take n ys
take-part f k n xs ys fits long few =
    let front = length-take-le f xs (omega arith) in
    rw (← take-take (f + n) (f + k) (put_mid f k xs ys) (omega arith), take-put_mid f k xs ys (f + k) (omega arith) (omega arith), take-add f n (take f xs ++ ys), take_at (take f xs) ys f front, drop_at (take f xs) ys f front)

pub length-part : (f k : ℕ) (xs ys : List ℕ) → f + k ≤ length xs → length ys ≡ k → length (put_mid f k xs ys) ≡ length xs
length-part f k xs ys fits long = same_len_mid f k xs ys (omega (arith, length-take-le k (drop f xs) (omega (arith, length-drop f xs))))

-- the first bytes of a buffer are bytes
pub small-front : (n : ℕ) (bytes : List ℕ) → ((i : ℕ) → get_or bytes i 0 < 256) → AllByRecursion (λ byte. byte < 256) (take n bytes)
small-front n bytes small = recursion_from_All (λ byte. byte < 256) (take n bytes) (All-take (λ byte. byte < 256) n bytes (All-from_get_or (λ byte. byte < 256) bytes 0 (λ i _. small i)))
