use Rattle.std.proofs.Common.{◌≡◌, ◌-◌, ◌++◌, drop, ap, ◌∙◌, arith}
use Rattle.tinyvec_array.specs.View.{view}
use Rattle.tinyvec_array.proofs.ViewLemmas.{fewer}
use Rattle.tinyvec_array.proofs.CutOutLemmas.{range_taken}
use Rattle.tinyvec_array.proofs.drain.ArrayVec+S.drain_into.Goals as goal

pub returns-clause-becomes : goal.returns-clause-becomes
returns-clause-becomes g c =
    let cut = c.cut_out-count in
    let n = cut.result in
    let items = (view g.S.Slots c.args.self.now).items in
    let (ds, defaults, written) = c.take_range.ensures.emptied in
    let none : n - 0 ≡ n = omega arith in
    range_taken g.S.Slots g.S.Item.Default.is_default c.args.self.now cut.new.self _ _ c.take_range.new.slots n cut.ensures.lender cut.ensures.items cut.ensures.spare cut.ensures.count
    (fewer items (g.R.RangeBounds.start_bound c.args.range) (g.R.RangeBounds.end_bound c.args.range) c.requires.in_list)
    (ds, (defaults.0 ∙ none, defaults.1), written ∙ ap (λ l. ds ++ drop n l) c.grab_spare_slice_mut.ensures.value)
