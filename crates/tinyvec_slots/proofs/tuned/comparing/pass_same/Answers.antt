use Rattle.std.proofs.Common.{◌≡◌, ◌∙◌, sym, true, false, rules}
use Rattle.tinyvec_slots.proofs.ComparingLemmas.{pointwise_more, pointwise_behind}
use Rattle.tinyvec_slots.proofs.tuned.comparing.pass_same.Goals as goal

pub returns-then-not-same_block-clause-differs : goal.returns-then-not-same_block-clause-differs
returns-then-not-same_block-clause-differs g c = λ more.
    let h : c.same_block.result ≡ false = search rules in
    pointwise_behind g.T.PartialEq.eq c.loop-done.done g.row.N c.args.a.now c.args.b.now c.requires.as_long
    c.loop-done.invariant.within more c.loop-done.invariant.same (sym c.same_block.ensures ∙ h)

pub loop-done-preserved : goal.loop-done-preserved
loop-done-preserved g c =
    let h : c.same_block.result ≡ true = search rules in
    record {
      within = search rules;
      same = pointwise_more g.T.PartialEq.eq c.loop-done.done g.row.N c.args.a.now c.args.b.now c.requires.as_long
          c.loop-done.invariant.within c.loop-done.invariant.same (sym c.same_block.ensures ∙ h);
    }
