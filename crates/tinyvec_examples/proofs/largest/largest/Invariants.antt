use Rattle.std.proofs.Common.{◌≡◌, min, take}
use Rattle.std.specs.List.Sorted.{IsNonDecreasing}
use Rattle.tinyvec.specs.TinyVec.{tiny_items, tiny_len}
use Rattle.tinyvec_examples.specs.Largest.{HoldsLargest}
use Rattle.tinyvec_examples.proofs.largest.largest.Given as goal

abbrev pub invariant-loop-number : goal.invariant-loop-number
invariant-loop-number l = record {
  ascending : IsNonDecreasing (tiny_items l.top);
  largest : HoldsLargest (take l.number-index l.numbers) (tiny_items l.top);
  count : tiny_len l.top ≡ min l.limit l.number-index;
}
