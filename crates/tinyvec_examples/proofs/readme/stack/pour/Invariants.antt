use Rattle.std.proofs.Common.{◌≡◌, ◌++◌, reverse}
use Rattle.tinyvec.specs.TinyVec.{tiny_items, tiny_len}
use Rattle.tinyvec_examples.proofs.readme.stack.pour.Given as goal

abbrev pub invariant-loop-x : goal.invariant-loop-x
invariant-loop-x l = tiny_items l.to ++ reverse (tiny_items l.from) ≡ tiny_items l.initial.to ++ reverse (tiny_items l.initial.from)

abbrev pub decreases-loop-x : goal.decreases-loop-x
decreases-loop-x l = tiny_len l.from
