use Rattle.std.proofs.Common.{◌≡◌, ◌+◌, ◌-◌, ◌≤◌, ◌++◌, take, drop}
use lib.Seq.{paste}
use Rattle.tinyvec_slots.proofs.tuned.moving.move_by.Given as goal

abbrev pub invariant-loop-done : goal.invariant-loop-done
invariant-loop-done g l = record {
  within : l.done ≤ l.count;
  copied : l.items ≡ paste l.initial.items l.to (drop l.from l.initial.items) l.done;
}

abbrev pub decreases-loop-done : goal.decreases-loop-done
decreases-loop-done g l = l.count - l.done

abbrev pub invariant-loop-left : goal.invariant-loop-left
invariant-loop-left g l = record {
  within : l.left ≤ l.count;
  copied : l.items ≡ take (l.to + l.left) l.initial.items ++ drop l.left (take l.count (drop l.from l.initial.items)) ++ drop (l.to + l.count) l.initial.items;
}

abbrev pub decreases-loop-left : goal.decreases-loop-left
decreases-loop-left g l = l.left
