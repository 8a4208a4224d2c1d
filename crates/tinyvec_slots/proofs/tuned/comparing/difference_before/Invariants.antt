use Rattle.std.proofs.Common.{◌≤◌}
use Rattle.tinyvec_slots.specs.Comparing.{SameInFront}
use Rattle.tinyvec_slots.proofs.tuned.comparing.difference_before.Given as goal

abbrev pub invariant-loop-i : goal.invariant-loop-i
invariant-loop-i g l = (l.i ≤ l.end) × SameInFront g.T.PartialEq.eq l.a l.b l.i
