use Rattle.std.proofs.Common.{◌≡◌, ◌+◌, ◌-◌, ◌++◌, List, length, take}
use Rattle.tinyvec_slots.specs.Slots.{AreDefaults}
use Rattle.tinyvec_slots.specs.Touches.{touch_count}
use Rattle.tinyvec_slots.proofs.touches.Touches.empty.Given as goal

abbrev pub invariant-loop-i : goal.invariant-loop-i
invariant-loop-i g l = record {
  len : length l.slots ≡ length l.initial.slots;
  emptied : (ds : List g.row.T.Denot) × AreDefaults g.T.Default.is_default (l.i - l.at) ds × (take l.i l.slots ≡ take l.at l.initial.slots ++ ds);
  count : touch_count l.self ≡ touch_count l.initial.self + (l.i - l.at);
}
