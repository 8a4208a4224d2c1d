use Rattle.std.proofs.Common.{◌≡◌, ◌∙◌, true, arith, rules}
use Rattle.std.specs.Prelude.{◌&&◌}
use Rattle.tinyvec_slots.proofs.ComparingLemmas.{pointwise_take}
use Rattle.tinyvec_slots.proofs.tuned.comparing.difference_before.Goals as goal

pub loop-i-preserved : goal.loop-i-preserved
loop-i-preserved g c =
    let E = g.T.PartialEq.eq in
    let now : E c.index-a-i.result c.index-b-i.result ≡ true = search rules in
    let more = pointwise_take E c.loop-i.i c.args.a.now c.args.b.now c.index-a-i.result c.index-b-i.result
    (omega arith) (omega arith) c.index-a-i.is c.index-b-i.is in
    (omega arith, more ∙ (λ k. c.loop-i.invariant.1 k && now k))
