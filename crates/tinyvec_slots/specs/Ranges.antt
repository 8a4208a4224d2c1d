-- What a range cuts a list into.
use Rattle.std.specs.Prelude.{ℕ, ◌+◌, ◌-◌, ◌^◌, ◌≤◌, min, List, length, take, drop, slice_range}
use Rattle.std.specs.declared.ops.Bound.{Bound}
use Rattle.std.specs.declared.ops.Bound.TheVariants.{Included, Excluded, Unbounded}

-- the index after n, or `usize::MAX`
abbrev pub after_index : ℕ → ℕ
after_index n = min (n + 1) (2 ^ 64 - 1)

-- the index of the first item in a range: 0 if its start is unbounded
abbrev pub range_start : Bound ℕ → ℕ
range_start (Included n) = n
range_start (Excluded n) = after_index n
range_start Unbounded = 0

-- the index after the last item in a range: the length of the list if its end is unbounded
abbrev pub range_end : Bound ℕ → ℕ → ℕ
range_end (Included n) len = after_index n
range_end (Excluded n) len = n
range_end Unbounded len = len

-- the range from start to end does not run backwards, and ends within n
abbrev pub Within : ℕ → ℕ → ℕ → Type 0
Within start end n = (start ≤ end) × (end ≤ n)

module _ {T : Type 0} where
  -- the range with these ends is in the list, and does not run backwards
  abbrev pub IsRangeOf : List T → Bound ℕ → Bound ℕ → Type 0
  IsRangeOf xs start end = (range_start start ≤ range_end end (length xs)) × (range_end end (length xs) ≤ length xs)

  -- the items before the range: the first a for `a..b`
  abbrev pub items_before : List T → Bound ℕ → List T
  items_before xs start = take (range_start start) xs

  -- the items in the range
  abbrev pub items_within : List T → Bound ℕ → Bound ℕ → List T
  items_within xs start end = slice_range xs (range_start start) (range_end end (length xs))

  -- the items after the range: all but the first b for `a..b`
  abbrev pub items_after : List T → Bound ℕ → List T
  items_after xs end = drop (range_end end (length xs)) xs
