use Rattle.std.proofs.Common.{arith, take}
use Rattle.std.proofs.lemmas.List.{take_more, length-take}
use Rattle.tinyvec.specs.TinyVec.{tiny_items}
use Rattle.tinyvec_examples.proofs.LargestLemmas.{one_more}
use Rattle.tinyvec_examples.proofs.largest.largest.Goals as goal

pub loop-number-preserved : goal.loop-number-preserved
loop-number-preserved c =
    let inv = c.loop-number.invariant in
    let told = c.in_ok-keep.ensures in
    let i = c.loop-number.number-index in
    let size = length-take i c.args.numbers.now in
    record {
      ascending = told.ascending;
      largest = rw (take_more c.args.numbers.now i 0 (omega arith))
          (one_more c.args.limit _ (take i c.args.numbers.now) (tiny_items c.loop-number.top) _ (omega arith) inv.largest told.largest told.floor);
      count = omega arith;
    }
