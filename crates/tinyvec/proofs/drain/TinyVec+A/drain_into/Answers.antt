use Rattle.std.proofs.Common.{◌++◌, length, take, drop, ap, ◌∙◌}
use Rattle.tinyvec_slots.specs.Ranges.{range_end}
use Rattle.tinyvec.proofs.CutOutLemmas.{range_ended}
use Rattle.tinyvec.proofs.drain.TinyVec+A.drain_into.Goals as goal

pub returns-clause-becomes : goal.returns-clause-becomes
returns-clause-becomes g c =
    let to = g.R.RangeBounds.end_bound c.args.range in
    let part = c.resolve_range-part in
    let i = part.result.start in
    let j = part.result.end in
    let (ds, defaults, left) = c.take_range.ensures.emptied in
    range_ended g.A.Slots g.A.Item.Default.is_default c.args.self.now c.end_drain.new.self (g.R.RangeBounds.start_bound c.args.range) to i j c.take_range.new.slots
    c.requires.in_list part.ensures.start (part.ensures.end ∙ ap (range_end to) c.len.ensures.value)
    (c.take_range.auto.slots ∙ ap length c.as_mut_slice.ensures.value) (ds, defaults, left ∙ ap (λ l. take i l ++ ds ++ drop j l) c.as_mut_slice.ensures.value) c.end_drain.ensures
