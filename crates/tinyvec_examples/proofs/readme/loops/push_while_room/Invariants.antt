use Rattle.std.proofs.Common.{◌≡◌, ◌+◌, ◌++◌, length, take}
use Rattle.tinyvec_array.specs.ArrayVec.{items, spare, items_len}
use Rattle.tinyvec_examples.proofs.readme.loops.push_while_room.Given as goal

abbrev pub invariant-loop-number : goal.invariant-loop-number
invariant-loop-number l = record {
  so_far : items l.v ≡ items l.initial.v ++ take l.number-index l.numbers;
  slots : items_len l.v + length (spare l.v) ≡ 8;
}
