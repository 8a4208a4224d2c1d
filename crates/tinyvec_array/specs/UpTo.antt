-- The length of a list in an array.
use Rattle.std.specs.Prelude.{◌≡◌, ℕ, ◌-◌, ◌≤◌, List, length}
use native.Mathlib.Omega.{arith}
use Rattle.tinyvec_array.specs.declared.bound.UpTo.{UpTo}

-- the length n; N if that is more
abbrev pub up_to : (N : ℕ) → ℕ → UpTo N
up_to N n = record { len = n - (n - N); bound = omega arith }

pub up_to-len : {T : Type 0} (N n : ℕ) (xs : List T) → length xs ≡ N → n ≤ length xs → (up_to N n).len ≡ n
up_to-len N n xs all le = omega (arith, all, le)
