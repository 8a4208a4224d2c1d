use Rattle.std.proofs.Common.{◌≡◌, ◌+◌, ◌-◌, ◌++◌, length, take, drop, slice_range}
use Rattle.tinyvec_slots.specs.Touches.{touch_count}
use Rattle.tinyvec_slots.proofs.touches.Touches.close.Given as goal

abbrev pub invariant-loop-from : goal.invariant-loop-from
invariant-loop-from g l = record {
  count : touch_count l.touches ≡ touch_count l.initial.touches + (l.from - l.back);
  len : length l.slots ≡ length l.initial.slots;
  kept : take (l.from - l.gap) l.slots ≡ take l.at l.initial.slots ++ slice_range l.initial.slots l.back l.from;
  rest : drop l.from l.slots ≡ drop l.from l.initial.slots;
}
