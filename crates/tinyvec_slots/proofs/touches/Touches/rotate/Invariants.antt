use Rattle.std.proofs.Common.{◌-◌, ◌≡◌, ◌+◌, ◌≤◌, length}
use Rattle.tinyvec_slots.specs.Touches.{touch_count}
use Rattle.tinyvec_slots.proofs.TurnLemmas.{turned}
use Rattle.tinyvec_slots.proofs.touches.Touches.rotate.Given as goal

abbrev pub invariant-loop-first : goal.invariant-loop-first
invariant-loop-first g l = record {
  count : touch_count l.touches ≡ touch_count l.initial.touches + (l.first - l.start);
  len : length l.slots ≡ length l.initial.slots;
  started : l.start ≤ l.first;
  in_order : l.first ≤ l.middle;
  behind : l.middle ≤ l.next;
  in_bounds : l.next ≤ length l.slots;
  last_ran_out : l.first ≡ l.middle → l.next ≡ l.middle;
  first_ran_out : l.next ≡ length l.slots → l.next ≡ l.middle;
  turns : turned l.slots l.first l.middle l.next ≡ turned l.initial.slots l.start l.fn.middle l.fn.middle;
}

abbrev pub decreases-loop-first : goal.decreases-loop-first
decreases-loop-first g l = length l.slots - l.first

abbrev pub invariant-loop-i : goal.invariant-loop-i
invariant-loop-i g l = record {
  count : touch_count l.touches ≡ touch_count l.initial.touches + l.i;
  len : length l.slots ≡ length l.initial.slots;
  turns : turned l.slots (l.first + l.i) l.middle (l.next + l.i) ≡ turned l.initial.slots l.first l.middle l.next;
}
