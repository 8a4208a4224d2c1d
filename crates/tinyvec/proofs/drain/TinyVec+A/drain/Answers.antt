use Rattle.std.proofs.Common.{◌≡◌, ◌+◌, ◌-◌, ◌++◌, length, take, drop, slice_range, refl, ap, subst, ◌∙◌, arith, rules}
use Rattle.tinyvec_slots.specs.Ranges.{range_end, items_before, items_within, items_after}
use Rattle.tinyvec_slots.proofs.DrainLemmas.{begins_as}
use Rattle.tinyvec.specs.TinyVec.{view}
use Rattle.tinyvec.specs.View.{Becomes}
use Rattle.tinyvec.proofs.drain.TinyVec+A.drain.Goals as goal

pub returns-clause-begins : goal.returns-clause-begins
returns-clause-begins g c =
    let v = c.args.self in
    let xs = (view g.A.Slots v.now).items in
    let part = c.resolve_range-part.result in
    let from = g.R.RangeBounds.start_bound c.args.range in
    let to = g.R.RangeBounds.end_bound c.args.range in
    let start = c.resolve_range-part.ensures.start in
    let end = c.resolve_range-part.ensures.end ∙ ap (range_end to) c.len.ensures.value in
    let all : part.start + (part.end - part.start) ≡ range_end to (length xs) = omega (arith, start, end, c.requires.in_list.0) in
    let inside : slice_range xs part.start part.end ≡ items_within xs from to = search rules in
    let around : take part.start xs ++ drop part.end xs ≡ items_before xs from ++ items_after xs to = search rules in
    let left : take part.start xs ++ drop (part.start + (part.end - part.start)) xs ≡ items_before xs from ++ items_after xs to =
    ap (λ k. take part.start xs ++ drop k xs) all ∙ ap (λ k. take k xs ++ items_after xs to) start in
    begins_as _ v v _ _ _ _ _ _ c.drain_held.result c.drain_held.ensures.begins refl inside around
    (λ u. subst (Becomes g.A.Item.Default.is_default (view g.A.Slots v.now) (view g.A.Slots u)) left)
