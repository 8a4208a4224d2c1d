-- How often slots were reached.
use Rattle.std.specs.Prelude.{ℕ, ◌^◌, ◌<◌}
use Rattle.tinyvec_slots.specs.declared.touches.Touches.{Touches}

-- the number of touches
abbrev pub touch_count : Touches → ℕ
touch_count t = t.count

-- The number fits in so many bits. Three layers count on, each within a `u128`: a splice has counted up to 66 bits before a
-- call, what passes over the slots is given up to 80, and what reaches one slot 120.
abbrev pub FitsBits : ℕ → ℕ → Type 0
FitsBits bits n = n < 2 ^ bits
