use Rattle.std.proofs.Common.{◌≡◌, ◌+◌, ◌-◌, ◌≤◌, List, length}
use Rattle.std.specs.Iterator.{Yields}
use Rattle.tinyvec_slots.proofs.putting.put_until_full.Given as goal

abbrev pub invariant-loop-at : goal.invariant-loop-at
invariant-loop-at g l = record {
  can : g.I.Iterator.can_next l.iter;
  in_bounds : l.at ≤ g.V.CanPut.room l.initial.vec;
  ran : (xs : List g.row.V-Item.Denot) × Yields g.I.Iterator.next_gives l.initial.iter xs l.iter
      × (l.at ≡ length (g.V.CanPut.items l.initial.vec) + length xs) × g.V.CanPut.Puts l.initial.vec xs l.vec;
}

abbrev pub decreases-loop-at : goal.decreases-loop-at
decreases-loop-at g l = g.V.CanPut.room l.initial.vec - l.at
