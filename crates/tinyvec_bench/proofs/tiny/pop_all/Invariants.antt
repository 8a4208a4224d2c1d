use Rattle.std.proofs.Common.{length}
use Rattle.std.specs.Bool.{⊤}
use Rattle.tinyvec.specs.TinyVec.{view}
use Rattle.tinyvec_bench.proofs.tiny.pop_all.Given as goal

abbrev pub invariant-loop-item : goal.invariant-loop-item
invariant-loop-item g l = ⊤

abbrev pub decreases-loop-item : goal.decreases-loop-item
decreases-loop-item g l = length (view g.A.Slots l.vec).items
