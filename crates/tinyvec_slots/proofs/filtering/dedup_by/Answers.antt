use Rattle.std.proofs.Common.{◌∙◌, length, ap}
use Rattle.tinyvec_slots.proofs.filtering.dedup_by.Goals as goal

pub returns-clause-filtered : goal.returns-clause-filtered
returns-clause-filtered g c =
    let shown = c.as_mut_slice.ensures.value in
    let written = g.met.V.CanCut.written c.args.vec.now c.dedup_in_front-kept.new.items (c.dedup_in_front-kept.auto.items ∙ ap length shown) in
    rw (c.truncate.ensures.items, written.0, ← shown) c.dedup_in_front-kept.ensures.filtered

pub returns-clause-asked : goal.returns-clause-asked
returns-clause-asked g c =
    let shown = c.as_mut_slice.ensures.value in
    let written = g.met.V.CanCut.written c.args.vec.now c.dedup_in_front-kept.new.items (c.dedup_in_front-kept.auto.items ∙ ap length shown) in
    rw (c.truncate.ensures.items, written.0, ← shown) c.dedup_in_front-kept.ensures.asked
