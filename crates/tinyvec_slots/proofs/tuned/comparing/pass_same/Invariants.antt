use Rattle.std.proofs.Common.{◌≤◌, ◌-◌, length}
use Rattle.tinyvec_slots.specs.Comparing.{SameInFront}
use Rattle.tinyvec_slots.proofs.tuned.comparing.pass_same.Given as goal

abbrev pub invariant-loop-done : goal.invariant-loop-done
invariant-loop-done g l = record {
  within : l.done ≤ length l.a;
  same : SameInFront g.T.PartialEq.eq l.a l.b l.done;
}

abbrev pub decreases-loop-done : goal.decreases-loop-done
decreases-loop-done g l = length l.a - l.done
