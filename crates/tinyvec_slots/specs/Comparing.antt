-- Equality of lists, as far as it was tried.
use Rattle.std.specs.Prelude.{◌≡◌, ◌≤◌, ◌<◌, ℕ, Bool, true, false, List, length, min, take, slice_index_or}
use Rattle.std.specs.Cmp.Lexicographic.{pointwise}

-- the first n items are equal pair by pair
abbrev pub SameInFront : {T : Type 0} → (T → T → Bool) → List T → List T → ℕ → Type 0
SameInFront E xs ys n = pointwise E (take n xs) (take n ys) ≡ true

-- the pairs before n are equal, and if n is less than m the pair there is not
abbrev pub FirstDifference : {T : Type 0} → (T → T → Bool) → List T → List T → ℕ → ℕ → Type 0
FirstDifference E xs ys m n = (n ≤ m) × SameInFront E xs ys n
    × (n < m → (x y : _) → x ≡ slice_index_or xs n x → y ≡ slice_index_or ys n y → E x y ≡ false)

-- the same of lists of any lengths, of which the first pairs are looked at
abbrev pub DiffersAt : {T : Type 0} → (T → T → Bool) → List T → List T → ℕ → Type 0
DiffersAt E xs ys n = FirstDifference E (take (min (length xs) (length ys)) xs) (take (min (length xs) (length ys)) ys)
    (min (length xs) (length ys)) n
