use Rattle.std.proofs.Common.{◌≡◌, ◌+◌, ◌-◌, take, ap, ◌∙◌, arith}
use Rattle.tinyvec_slots.proofs.TurnLemmas.{closed_more}
use Rattle.tinyvec_slots.proofs.touches.Touches.close.Goals as goal

pub loop-from-preserved : goal.loop-from-preserved
loop-from-preserved g c =
    let turn = c.loop-from in
    let inv = turn.invariant in
    let gap = c.args.back - c.args.at in
    let more = closed_more c.args.slots.now turn.slots c.swap.new.slots (turn.from - gap) turn.from (omega arith) (omega (arith, inv.len)) inv.len c.swap.auto.slots
    c.args.at c.args.back (omega arith) c.swap.ensures.by_index inv.rest inv.kept in
    let next : turn.from + 1 - gap ≡ turn.from - gap + 1 = omega arith in record {
      count = c.swap.ensures.count ∙ omega (arith, inv.count);
      len = c.swap.auto.slots ∙ inv.len;
      kept = ap (λ k. take k c.swap.new.slots) next ∙ more.0;
      rest = more.1;
    }
