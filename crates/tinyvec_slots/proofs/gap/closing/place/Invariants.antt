use Rattle.std.proofs.Common.{◌≡◌, ◌+◌, ◌-◌, ◌*◌, ◌++◌, List, length, take, drop}
use Rattle.std.specs.Iterator.{Yields, IsFinite}
use Rattle.tinyvec_slots.specs.Touches.{touch_count}
use Rattle.tinyvec_slots.proofs.gap.closing.place.Given as goal

abbrev pub invariant-loop-at : goal.invariant-loop-at
invariant-loop-at g l = record {
  can : g.I.Iterator.can_next l.replacement;
  finite : IsFinite (g.I.Iterator.remaining l.initial.replacement) → IsFinite (g.I.Iterator.remaining l.replacement);
  len : length l.slots ≡ length l.initial.slots;
  behind : drop l.back l.slots ≡ drop l.back l.initial.slots;
  ran : (placed : List g.row.I-Item.Denot) × (take l.at l.slots ≡ take l.front l.initial.slots ++ placed)
      × (length placed ≡ l.at - l.front) × Yields g.I.Iterator.next_gives l.initial.replacement placed l.replacement;
  count : touch_count l.touches ≡ touch_count l.initial.touches + 2 * (l.at - l.front);
}
