use Rattle.std.proofs.Common.{◌≡◌, ◌+◌, ◌≤◌, length}
use Rattle.std.specs.Iterator.{size}
use Rattle.tinyvec_slots.proofs.putting.put_iter.Given as goal

abbrev pub invariant-loop-item : goal.invariant-loop-item
invariant-loop-item g l = record {
  can : (goal.iterator-loop-item g).can_next l.iter;
  ends : (goal.iterator-loop-item g).is_finite l.iter;
  no_longer : length l.yielded + size (g.I.Iterator.remaining l.iter) ≤ size (g.I.Iterator.remaining l.initial.iter);
  count : l.at ≡ length (g.V.CanPut.items l.initial.vec) + length l.yielded;
  in_bounds : l.at ≤ l.room;
  put : g.V.CanPut.Puts l.initial.vec l.yielded l.vec;
}
