-- How the examples are written: items are numbers, whose default is 0, and whose clones are equal and may be refused at 9.
use Rattle.std.specs.Prelude.{◌≡◌, ◌≢◌, ℕ, List, ◌++◌, length}
use Rattle.tinyvec_slots.specs.Slots.{Slots, split_at}
use Rattle.tinyvec_array.specs.UpTo.{up_to}
use Rattle.tinyvec_array.specs.declared.bound.UpTo.{UpTo}
use Rattle.tinyvec_array.specs.declared.array_vec.ArrayVec.{ArrayVec}

abbrev pub D : ℕ → Type 0
D x = x ≡ 0

abbrev pub C : ℕ → ℕ → Type 0
C x y = y ≡ x

abbrev pub I : ℕ → Type 0
I x = x ≢ 9

-- these numbers
abbrev pub nums : List ℕ → List ℕ
nums xs = xs

-- a list and the spare slots after it
abbrev pub over : List ℕ → List ℕ → Slots ℕ
over xs ys = split_at (length xs) (xs ++ ys)

-- the same of a vector in an array of five slots
abbrev pub array_over : List ℕ → List ℕ → ArrayVec (List ℕ) (UpTo 5)
array_over xs ys = record { slots = xs ++ ys; len = up_to 5 (length xs) }
