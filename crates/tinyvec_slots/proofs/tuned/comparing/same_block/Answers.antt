use Rattle.std.proofs.Common.{arith}
use Rattle.tinyvec_slots.proofs.ComparingLemmas.{pointwise_take}
use Rattle.tinyvec_slots.proofs.tuned.comparing.same_block.Goals as goal

pub loop-i-preserved : goal.loop-i-preserved
loop-i-preserved g c =
    let e = pointwise_take g.T.PartialEq.eq c.loop-i.i c.args.a.now c.args.b.now c.index-a-i.result c.index-b-i.result
    (omega arith) (omega arith) c.index-a-i.is c.index-b-i.is in cc (e, c.eq-same.ensures, c.loop-i.invariant)
