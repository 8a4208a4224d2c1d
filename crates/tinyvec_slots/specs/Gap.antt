-- What a contract sees of a `Gap`, with the replacement of its splice and its slots.
use Rattle.std.specs.Prelude.{◌≡◌, ℕ, ◌+◌, ◌*◌, ◌-◌, ◌≤◌, false, Bool, List, take, drop, slice_range}
use Rattle.tinyvec_slots.specs.AnySplice.{SpliceView}
use Rattle.tinyvec_slots.specs.Touches.{touch_count, FitsBits}
use Rattle.tinyvec_slots.specs.declared.gap.Gap.{Gap}

-- where what was placed from the front ends
abbrev pub gap_front : Gap → ℕ
gap_front g = g.front

-- where what was placed from the back begins
abbrev pub gap_back : Gap → ℕ
gap_back g = g.back

-- how many removed items are left
abbrev pub gap_len : Gap → ℕ
gap_len g = g.end - g.next

-- the removed items that are left
abbrev pub gap_left : {T : Type 0} → Gap → List T → List T
gap_left g xs = slice_range xs g.next g.end

-- how many slots were touched
abbrev pub gap_touches : Gap → ℕ
gap_touches g = touch_count g.touches

-- what a splice shows of itself, whose list these slots are
abbrev pub gap_view : {I T : Type 0} → Gap → I → List T → SpliceView I T
gap_view g replacement xs = record {
  front = take g.front xs;
  left = gap_left g xs;
  back = drop g.back xs;
  replacement = replacement;
  touches = gap_touches g;
}

-- the gap is within this many slots, and its touches can be counted on
abbrev pub GapLies : Gap → ℕ → Type 0
GapLies g len = (g.front ≤ g.back) × (g.back ≤ len) × FitsBits 66 (gap_touches g)

-- The removed items that are left are within it. Before the replacement has ended it has no other slot. Its touches can be
-- counted on.
pub record GapCanStep (g : Gap) (ended : Bool) (len : ℕ) : Type 0 where
  pub front_le_next : g.front ≤ g.next
  pub next_le_end : g.next ≤ g.end
  pub end_le_back : g.end ≤ g.back
  pub back_le_len : g.back ≤ len
  pub no_slot_besides : ended ≡ false → (g.front ≡ g.next) × (g.end ≡ g.back)
  pub few : FitsBits 66 (gap_touches g + 2 * gap_len g)
