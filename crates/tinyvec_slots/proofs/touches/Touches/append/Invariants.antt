use Rattle.std.proofs.Common.{◌≡◌, ◌+◌, ◌-◌, ◌++◌, List, length, take, drop}
use Rattle.std.specs.Iterator.{Yields}
use Rattle.tinyvec_slots.specs.Touches.{touch_count}
use Rattle.tinyvec_slots.proofs.touches.Touches.append.Given as goal

abbrev pub invariant-loop-i : goal.invariant-loop-i
invariant-loop-i g l = record {
  can : g.I.Iterator.can_next l.iter;
  len : length l.slots ≡ length l.initial.slots;
  behind : drop l.i l.slots ≡ drop l.i l.initial.slots;
  ran : (placed : List g.row.I-Item.Denot) × (take l.i l.slots ≡ take l.at l.initial.slots ++ placed)
      × (length placed ≡ l.i - l.at) × Yields g.I.Iterator.next_gives l.initial.iter placed l.iter;
  count : touch_count l.self ≡ touch_count l.initial.self + (l.i - l.at);
}
