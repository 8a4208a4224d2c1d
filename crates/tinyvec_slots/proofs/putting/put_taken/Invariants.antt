use Rattle.std.proofs.Common.{◌≡◌, ◌≤◌, ◌-◌, take, length}
use Rattle.tinyvec_slots.proofs.EmptiedLemmas.{Emptied}
use Rattle.tinyvec_slots.proofs.putting.put_taken.Given as goal

abbrev pub invariant-loop-from : goal.invariant-loop-from
invariant-loop-from g l = record {
  within : l.done ≤ length l.initial.from;
  slots : length l.from ≡ length l.initial.from;
  put : g.V.CanPut.Puts l.initial.vec (take l.done l.initial.from) l.vec;
  emptied : Emptied g.V.Item.Default.is_default l.done l.initial.from l.from;
}

abbrev pub decreases-loop-from : goal.decreases-loop-from
decreases-loop-from g l = length l.from - l.done
