use Rattle.std.proofs.Common.{◌≡◌, ◌≤◌, ◌-◌, ◌%◌, length}
use Rattle.tinyvec_slots.specs.Comparing.{SameInFront}
use Rattle.tinyvec_slots.proofs.tuned.comparing.same_blocks.Given as goal

abbrev pub invariant-loop-next : goal.invariant-loop-next
invariant-loop-next g l = record {
  within : l.next ≤ length l.a;
  same : SameInFront g.T.PartialEq.eq l.a l.b l.next;
  blocks : (length l.a - l.next) % g.row.N ≡ 0;
}

abbrev pub decreases-loop-next : goal.decreases-loop-next
decreases-loop-next g l = length l.a - l.next
