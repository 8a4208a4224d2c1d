-- What a function that appends leaves in a vector over a lent slice. No call of this crate says it: it is for callers.
use Rattle.std.specs.Prelude.{◌≡◌, ℕ, List, ◌++◌, length, drop}
use Rattle.std.specs.Borrow.{MutBor}
use Rattle.tinyvec_array.specs.SliceVec.{slice_items, slice_spare, slice_name}
use Rattle.tinyvec_array.specs.declared.array_vec.ArrayVec.{ArrayVec}

-- a vector over a lent slice
abbrev pub LentVec : Type 0 → Type 0
LentVec T = ArrayVec (MutBor (List T)) ℕ

-- the items follow the old list, in spare slots, and all else is as it was
pub record Appends {T : Type 0} (xs : List T) (old new : LentVec T) : Type 0 where
  pub same_reference : slice_name new ≡ slice_name old
  pub items : slice_items new ≡ slice_items old ++ xs
  pub spare : slice_spare new ≡ drop (length xs) (slice_spare old)
