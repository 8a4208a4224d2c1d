-- Examples of what a range cuts a list into.
use Rattle.std.proofs.Common.{◌≡◌, [], ◌∷◌, refl, arith}
use Rattle.std.specs.declared.ops.Bound.TheVariants.{Included, Excluded}
use Rattle.tinyvec_slots.specs.Ranges.{range_start, range_end, IsRangeOf, items_before, items_within, items_after}
use Rattle.tinyvec_examples.proofs.words.Shown.{nums}

pub example-IsRangeOf : IsRangeOf (nums (1 ∷ 2 ∷ 3 ∷ 4 ∷ [])) (Included 1) (Excluded 3)
example-IsRangeOf = (omega arith, omega arith)

pub example-items_before : items_before (nums (1 ∷ 2 ∷ 3 ∷ 4 ∷ [])) (Included 1) ≡ 1 ∷ []
example-items_before = refl

pub example-items_within : items_within (nums (1 ∷ 2 ∷ 3 ∷ 4 ∷ [])) (Included 1) (Excluded 3) ≡ 2 ∷ 3 ∷ []
example-items_within = refl

pub example-items_after : items_after (nums (1 ∷ 2 ∷ 3 ∷ 4 ∷ [])) (Excluded 3) ≡ 4 ∷ []
example-items_after = refl

pub example-range_start : range_start (Included 1) ≡ 1
example-range_start = refl

pub example-range_end : range_end (Excluded 3) 4 ≡ 3
example-range_end = refl
