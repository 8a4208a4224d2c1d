use Rattle.std.proofs.Common.{◌≡◌, ◌++◌, take, vec_capacity}
use Rattle.tinyvec.proofs.splice.push_tail.Given as goal

abbrev pub invariant-loop-i : goal.invariant-loop-i
invariant-loop-i g l = (l.heap.items ≡ l.initial.heap.items ++ take l.i l.more) × (vec_capacity l.heap ≡ vec_capacity l.initial.heap)
