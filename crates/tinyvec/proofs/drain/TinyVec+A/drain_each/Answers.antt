use Rattle.std.proofs.Common.{slice_range, subst, ◌++◌, length, take, drop, ap, ◌∙◌}
use Rattle.std.specs.Fn.{Called}
use Rattle.std.specs.List.{FoldsTo}
use Rattle.tinyvec_slots.specs.Ranges.{range_start, range_end}
use Rattle.tinyvec.specs.TinyVec.{view}
use Rattle.tinyvec.proofs.CutOutLemmas.{range_ended}
use Rattle.tinyvec.proofs.drain.TinyVec+A.drain_each.Goals as goal

pub returns-clause-becomes : goal.returns-clause-becomes
returns-clause-becomes g c =
    let to = g.R.RangeBounds.end_bound c.args.range in
    let part = c.resolve_range-part in
    let i = part.result.start in
    let j = part.result.end in
    let (ds, defaults, left) = c.take_each.ensures.emptied in
    range_ended g.A.Slots g.A.Item.Default.is_default c.args.self.now c.end_drain.new.self (g.R.RangeBounds.start_bound c.args.range) to i j c.take_each.new.slots
    c.requires.in_list part.ensures.start (part.ensures.end ∙ ap (range_end to) c.len.ensures.value)
    (c.take_each.auto.slots ∙ ap length c.as_mut_slice.ensures.value) (ds, defaults, left ∙ ap (λ l. take i l ++ ds ++ drop j l) c.as_mut_slice.ensures.value) c.end_drain.ensures

pub returns-clause-given : goal.returns-clause-given
returns-clause-given g c =
    let xs = (view g.A.Slots c.args.self.now).items in
    let from = g.R.RangeBounds.start_bound c.args.range in
    let to = g.R.RangeBounds.end_bound c.args.range in
    let part = c.resolve_range-part in
    let taken = ap (λ l. slice_range l part.result.start part.result.end) c.as_mut_slice.ensures.value
    ∙ ap (λ k. slice_range xs k part.result.end) part.ensures.start
    ∙ ap (λ k. slice_range xs (range_start from) k) (part.ensures.end ∙ ap (range_end to) c.len.ensures.value) in
    subst (λ l. FoldsTo (λ p x q. Called g.F.FnMut p (x, tt) tt q) c.args.f.now l c.take_each.new.f) taken c.take_each.ensures.given
