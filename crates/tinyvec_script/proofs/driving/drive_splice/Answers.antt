use Rattle.std.proofs.Common.{◌≡◌, ◌++◌, ap, ◌∙◌, sym, subst, arith, rules, length}
use Rattle.std.specs.Vec.Iter.{into_iter_items}
use Rattle.tinyvec_slots.specs.Ends.{TakesFromEnds, given_items}
use Rattle.tinyvec_slots.specs.Fused.{fused_rest}
use Rattle.tinyvec_slots.specs.AnySplice.{FinishesWith}
use Rattle.tinyvec_slots.specs.Splice.{splice_view, splice_left, splice_replacement, splice_vec, SpliceKeeps}
use Rattle.tinyvec_slots.specs.SplicedByWord.{SplicedByWord}
use Rattle.tinyvec_slots.proofs.Lists.{length-slice_range}
use Rattle.tinyvec_script.specs.Driving.{word_of, refused_items, DrivenSplices}
use Rattle.tinyvec_script.proofs.DrivingLemmas.{into_iter_ends, spliced_along, taken_along, splices_finished, refused_over, rest_within, splice_computes}
use Rattle.tinyvec_script.proofs.driving.drive_splice.Goals.{After-finish}
use Rattle.tinyvec_script.proofs.driving.drive_splice.Goals as goal

pub take_word-requires-clause-room : goal.take_word-requires-clause-room
take_word-requires-clause-room g c =
    let old = g.V.CanCut.items c.args.vec.now in
    let count = ap length c.splice_over-splice.ensures.begins.left ∙ length-slice_range old c.args.start c.args.end c.requires.start_le_end c.requires.in_bounds in
    let none = ap length c.in-Ok.ensures.empty.0 in
    let held = c.in-Ok.driven.yields.ok.0 in
    omega (arith, count, none, held, c.in-Ok.ensures.enough.0)

pub finish-requires-clause-can : goal.finish-requires-clause-can
finish-requires-clause-can g c =
    let asks = c.take_word.ensures.asks in
    let along = spliced_along g.V.CanCut.items g.V.CanCut.Kept g.met.V.CanSplice.kept_same g.met.V.CanSplice.kept_then _ _ asks.0 _ asks.1 in
    (along.kept.ready c.splice_over-splice.ensures.ready, λ _. tt)

-- what the calls by the word did to the splice, and what `finish` left
module _ (g : _) (c : After-finish g) where
  along : SplicedByWord (splice_view g.V.CanCut.items) (SpliceKeeps g.V.CanCut.items g.V.CanCut.Kept) (fused_rest into_iter_items)
      c.splice_over-splice.result (word_of c.args.word.now) c.take_word.new.splice
  along =
      let asks = c.take_word.ensures.asks in
      spliced_along g.V.CanCut.items g.V.CanCut.Kept g.met.V.CanSplice.kept_same g.met.V.CanSplice.kept_then _ _ asks.0 _ asks.1

  takes : TakesFromEnds (splice_left g.V.CanCut.items c.splice_over-splice.result) (word_of c.args.word.now) c.take_word.ensures.asks.0
      (splice_left g.V.CanCut.items c.take_word.new.splice)
  takes =
      let asks = c.take_word.ensures.asks in
      taken_along g.V.CanCut.items g.V.CanCut.Kept g.met.V.CanSplice.kept_same g.met.V.CanSplice.kept_then _ _ asks.0 _ asks.1

  abbrev left : g.row.V.Denot
  left = c.finish.new.self.0

  whole : fused_rest into_iter_items (splice_replacement c.splice_over-splice.result) ≡ c.args.replacement.items
  whole = rw (c.splice_over-splice.ensures.unasked, c.splice_over-splice.ensures.replacement_is) c.into_iter.ensures.rest

  finished : FinishesWith (fused_rest into_iter_items) (g.V.CanCut.room left) (splice_view g.V.CanCut.items c.take_word.new.splice) c.finish.result (g.V.CanCut.items left)
  finished = c.finish.ensures.listed into_iter_items into_iter_ends.first

  kept : g.V.CanCut.Kept c.args.vec.now (splice_vec c.take_word.new.splice)
  kept = subst (λ v. g.V.CanCut.Kept v (splice_vec c.take_word.new.splice)) c.splice_over-splice.ensures.vec along.kept.kept

  did : DrivenSplices g.V.CanCut.items g.V.CanSplice.Grown (g.V.CanCut.room left) c.args.vec.now c.args.start c.args.end c.args.word.now c.args.replacement.items
      (given_items c.take_word.ensures.asks.0) (refused_items (fused_rest into_iter_items) c.finish.result) left
  did =
      let made = c.splice_over-splice.ensures in
      let items = g.V.CanCut.items in record {
        list = splices_finished (splice_view items) (SpliceKeeps items g.V.CanCut.Kept) (fused_rest into_iter_items) _ _ c.args.word.now _ along takes (g.V.CanCut.room left)
            (items c.args.vec.now) (items left) c.args.start c.args.end c.args.replacement.items
            c.requires.start_le_end c.requires.in_bounds made.begins.front made.begins.left made.begins.back whole c.finish.result finished;
        grown = g.met.V.CanSplice.kept_grown _ _ left left kept c.finish.ensures.changes (g.met.V.CanSplice.kept_same left);
        no_shorter = λ over. rw (sym (g.met.V.CanSplice.kept_len _ _ kept)) (
            refused_over (splice_view items) (SpliceKeeps items g.V.CanCut.Kept) (fused_rest into_iter_items) _ _ c.args.word.now _ along takes (g.V.CanCut.room left)
            (items c.args.vec.now) (items left) c.args.start c.args.end c.args.replacement.items
            c.requires.start_le_end c.requires.in_bounds made.begins.front made.begins.left made.begins.back whole c.finish.result finished c.finish.ensures.no_shorter over);
      }

pub keep_refused-requires : goal.keep_refused-requires
keep_refused-requires g c =
    let d = (goal.at.keep_refused-requires g c).After-finish in
    let made = c.splice_over-splice.ensures in
    let items = g.V.CanCut.items in
    let within = rest_within (splice_view items) (SpliceKeeps items g.V.CanCut.Kept) (fused_rest into_iter_items) _ _ c.args.word.now _ (along g d) (takes g d) (g.V.CanCut.room (left g d))
    (items c.args.vec.now) (items (left g d)) c.args.start c.args.end c.args.replacement.items
    c.requires.start_le_end c.requires.in_bounds made.begins.front made.begins.left made.begins.back (whole g d) c.finish.result (finished g d) in
    let none = ap length c.in-Ok.ensures.empty.1 in
    let held = c.in-Ok.driven.rest.ok.0 in
    let size = c.args.replacement.ok.0 in
    omega (arith, within, none, held, size, c.in-Ok.ensures.enough.1, c.len.ensures)

pub returns-clause-splices : goal.returns-clause-splices
returns-clause-splices g c =
    let d = (goal.at.returns-clause-splices g c).After-finish in
    let asks = c.take_word.ensures.asks in
    let yields : c.take_word.new.yields.items ≡ given_items asks.0 =
    asks.2 ∙ ap (λ l. l ++ given_items asks.0) c.in-Ok.ensures.empty.0 in
    let rest : c.keep_refused.new.list.items ≡ refused_items (fused_rest into_iter_items) c.finish.result =
    c.keep_refused.ensures ∙ ap (λ l. l ++ refused_items (fused_rest into_iter_items) c.finish.result) c.in-Ok.ensures.empty.1 in
    let same = c.splice_over-splice.ensures.same_reference in
    let lender = (along g d).kept.same_reference in
    let fact : DrivenSplices g.V.CanCut.items g.V.CanSplice.Grown (g.V.CanCut.room (left g d)) c.args.vec.now c.args.start c.args.end c.args.word.now c.args.replacement.items
    c.take_word.new.yields.items c.keep_refused.new.list.items (left g d) = rw (yields, rest) (did g d) in
    subst (λ v. DrivenSplices g.V.CanCut.items g.V.CanSplice.Grown (g.V.CanCut.room v) c.args.vec.now c.args.start c.args.end c.args.word.now c.args.replacement.items
    c.take_word.new.yields.items c.keep_refused.new.list.items v) (search rules) fact

pub returns-clause-computed : goal.returns-clause-computed
returns-clause-computed g c =
    splice_computes _ (g.V.CanCut.items c.args.vec.now) _ c.args.start c.args.end c.args.word.now c.args.replacement.items
    c.take_word.new.yields.items c.keep_refused.new.list.items c.requires.start_le_end c.requires.in_bounds (returns-clause-splices g c).list
