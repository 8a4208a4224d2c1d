use Rattle.std.proofs.Common.{◌+◌, refl, arith, ap, ◌∙◌, length, length-set}
use Rattle.std.specs.List.{remove_range}
use Rattle.tinyvec_slots.proofs.Lists.{slice_range_first, remove_range-set}
use Rattle.tinyvec_slots.proofs.drain.DrainIterator.next.Goals as goal

pub returns-clause-steps : goal.returns-clause-steps
returns-clause-steps g c =
    let d = c.args.self.now in
    let xs = g.V.CanDrain.drained_list d.vec.now in
    let end = d.start + d.gap in
    let can = c.requires in
    let took = c.take_drained.ensures in
    let after = took.after in
    let long = ap length after.2 ∙ length-set xs d.front after.0 in
    let others = ap (λ l. remove_range l d.start end) after.2 ∙ remove_range-set xs d.start end d.front after.0 can.0 (omega (arith, can.1)) in (
      rw after.2 (slice_range_first xs d.front d.back c.take_drained.result after.0 (omega arith) (omega (arith, can.1, can.2)) took.value),
      record {
        same_reference = refl;
        others = others;
        kept = took.kept;
        ready = λ h. (omega (arith, h.0), h.1, omega (arith, long, h.2));
        leaves = λ v left. g.met.V.CanDrain.kept_ended d.start d.gap d.vec.now c.take_drained.new.self v took.kept long others left;
      },
    )
