use Rattle.std.proofs.Common.{◌≡◌, ◌++◌}
use Rattle.std.specs.Vec.Iter.{into_iter_items}
use Rattle.tinyvec_slots.specs.Fused.{fused_rest}
use Rattle.tinyvec_script.proofs.driving.keep.Given as goal

abbrev pub invariant-loop-item : goal.invariant-loop-item
invariant-loop-item g l = record {
  can : (goal.iterator-loop-item g).can_next l.item-iterator;
  ends : (goal.iterator-loop-item g).is_finite l.item-iterator;
  room : l.list.cap ≡ l.initial.list.cap;
  kept : l.list.items ++ fused_rest into_iter_items l.item-iterator ≡ l.initial.list.items ++ fused_rest into_iter_items l.initial.item-iterator;
}
