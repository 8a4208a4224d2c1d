use Rattle.std.proofs.Common.{◌≡◌, ◌-◌, ◌++◌, take, drop, slice_range, ap, subst, ◌∙◌, arith, take_at}
use Rattle.std.specs.Fn.{Called}
use Rattle.std.specs.List.{FoldsTo}
use Rattle.tinyvec_slots.specs.Ranges.{items_within}
use Rattle.tinyvec_array.specs.View.{view}
use Rattle.tinyvec_array.proofs.ViewLemmas.{fewer}
use Rattle.tinyvec_array.proofs.CutOutLemmas.{range_taken}
use Rattle.tinyvec_array.proofs.drain.ArrayVec+S.drain_each.Goals as goal

pub returns-clause-becomes : goal.returns-clause-becomes
returns-clause-becomes g c =
    let cut = c.cut_out-count in
    let n = cut.result in
    let items = (view g.S.Slots c.args.self.now).items in
    let (ds, defaults, written) = c.take_each.ensures.emptied in
    let none : n - 0 ≡ n = omega arith in
    range_taken g.S.Slots g.S.Item.Default.is_default c.args.self.now cut.new.self _ _ c.take_each.new.slots n cut.ensures.lender cut.ensures.items cut.ensures.spare cut.ensures.count
    (fewer items (g.R.RangeBounds.start_bound c.args.range) (g.R.RangeBounds.end_bound c.args.range) c.requires.in_list)
    (ds, (defaults.0 ∙ none, defaults.1), written ∙ ap (λ l. ds ++ drop n l) c.grab_spare_slice_mut.ensures.value)

pub returns-clause-given : goal.returns-clause-given
returns-clause-given g c =
    let n = c.cut_out-count.result in
    let moved = items_within (view g.S.Slots c.args.self.now).items (g.R.RangeBounds.start_bound c.args.range) (g.R.RangeBounds.end_bound c.args.range) in
    let cut = c.cut_out-count in
    let shown = c.grab_spare_slice_mut.ensures.value ∙ cut.ensures.spare in
    let S = (view g.S.Slots c.args.self.now).spare in
    let none : n - 0 ≡ n = omega arith in
    let taken = ap (λ l. slice_range l 0 n) shown ∙ ap (λ k. take k (moved ++ S)) none ∙ take_at moved S n cut.ensures.count in
    subst (λ xs. FoldsTo (λ p x q. Called g.F.FnMut p (x, tt) tt q) c.args.f.now xs c.take_each.new.f) taken c.take_each.ensures.given
