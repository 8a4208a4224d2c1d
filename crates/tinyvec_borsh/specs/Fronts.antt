-- An input that ends within an encoding.
use Rattle.std.specs.Prelude.{ℕ, ◌<◌, List, ◌++◌, length}

-- A front of an encoding of what fits, some byte short of it, is cut.
abbrev pub FrontsAreCut : {C : Type 0} → (C → List ℕ → Type 0) → (C → Type 0) → (List ℕ → Type 0) → Type 0
FrontsAreCut {C} Spells Fits IsCut = (c : C) (front back : List ℕ) → 0 < length back → Fits c → Spells c (front ++ back) → IsCut front
