use Rattle.std.proofs.Common.{◌≡◌, ◌++◌}
use Rattle.tinyvec_array.specs.ArrayVec.{SameLender}
use Rattle.tinyvec_array.specs.View.{view}
use Rattle.tinyvec_array.specs.Drain.{DrainKeeps, drain_items}
use Rattle.tinyvec_array.specs.DrainLaws.{drain_of}
use Rattle.tinyvec_examples.proofs.draining.move_all.Given as goal

abbrev pub invariant-loop-x : goal.invariant-loop-x
invariant-loop-x g l = record {
  can : (goal.iterator-loop-x g).can_next l.x-iterator;
  ends : (goal.iterator-loop-x g).is_finite l.x-iterator;
  keeps : DrainKeeps (drain_of g.A.Slots g.A.Item.Default.is_default) l.initial.x-iterator l.x-iterator;
  moved : (view g.A.Slots l.fn.from).items ≡ (view g.A.Slots l.to).items ++ drain_items (drain_of g.A.Slots g.A.Item.Default.is_default) l.x-iterator;
  lender : SameLender g.A.Slots l.fn.to l.to;
}
