use Rattle.std.proofs.Common.{◌≡◌, ◌++◌, take}
use Rattle.tinyvec.specs.TinyVec.{tiny_items}
use Rattle.tinyvec_examples.proofs.readme.loops.push_each.Given as goal

abbrev pub invariant-loop-number : goal.invariant-loop-number
invariant-loop-number l = tiny_items l.v ≡ tiny_items l.initial.v ++ take l.number-index l.numbers
