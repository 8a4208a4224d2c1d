use Rattle.std.proofs.Common.{◌≡◌, ◌≤◌, ◌-◌, ◌+◌, take, length, vec_len, vec_capacity}
use Rattle.std.specs.List.{AppendsClones}
use Rattle.tinyvec.proofs.tuned.push_until_refused.Given as goal

abbrev pub invariant-loop-done : goal.invariant-loop-done
invariant-loop-done g l = record {
  within : l.done ≤ length l.from;
  cloned : AppendsClones g.T.Clone.is_clone l.fn.vec.items l.vec.items (take l.done l.from);
  room : vec_len l.vec + (length l.from - l.done) ≤ vec_capacity l.vec;
  capacity : vec_capacity l.vec ≡ vec_capacity l.fn.vec;
}

abbrev pub decreases-loop-done : goal.decreases-loop-done
decreases-loop-done g l = length l.from - l.done

abbrev pub invariant-loop-done-2 : goal.invariant-loop-done-2
invariant-loop-done-2 g l = record {
  within : l.done ≤ length l.from;
  cloned : AppendsClones g.T.Clone.is_clone l.fn.vec.items l.vec.items (take l.done l.from);
  room : vec_len l.vec + (length l.from - l.done) ≤ vec_capacity l.vec;
  capacity : vec_capacity l.vec ≡ vec_capacity l.fn.vec;
}

abbrev pub decreases-loop-done-2 : goal.decreases-loop-done-2
decreases-loop-done-2 g l = length l.from - l.done

abbrev pub invariant-loop-i : goal.invariant-loop-i
invariant-loop-i g l = record {
  cloned : AppendsClones g.T.Clone.is_clone l.fn.vec.items l.vec.items (take l.i l.from);
  room : vec_len l.vec + (length l.from - l.i) ≤ vec_capacity l.vec;
  capacity : vec_capacity l.vec ≡ vec_capacity l.fn.vec;
}
