-- What an array ends as when a vector is made over it.
use Rattle.std.specs.Prelude.{ℕ, List}
use Rattle.std.specs.Borrow.{Fml, RattleType, MutBor, Array, follows}
use Rattle.tinyvec_array.specs.SliceVec.{slice_name}
use Rattle.tinyvec_array.specs.declared.array_vec.ArrayVec.{ArrayVec}

-- the array ends as the slots that the vector shows last
abbrev pub lends_array : (T : RattleType) (n : ℕ) → MutBor (List T.Denot) → ArrayVec (MutBor (List T.Denot)) ℕ → Fml
lends_array T n array v = follows (Array T n) (Array T 0) array.ghost_name (slice_name v) (λ ws. ws)
