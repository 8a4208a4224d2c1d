use Rattle.std.proofs.Common.{◌≡◌, ◌++◌, take, vec_capacity}
use Rattle.tinyvec.proofs.tuned.push_copies.Given as goal

abbrev pub invariant-loop-i : goal.invariant-loop-i
invariant-loop-i g l = (l.vec.items ≡ l.fn.heap.items ++ take l.i l.from) × (vec_capacity l.vec ≡ vec_capacity l.fn.heap)
