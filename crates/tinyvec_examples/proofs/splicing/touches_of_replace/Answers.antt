use Rattle.std.proofs.Common.{◌≡◌, ◌+◌, ◌-◌, ◌≤◌, [], ◌∷◌, length, max, subst, refl, ap, ◌∙◌, arith, rules}
use Rattle.std.proofs.lemmas.List.{length-take-le, length-drop}
use Rattle.std.specs.Iterator.Adapters.{fuse_steps}
use Rattle.tinyvec_array.specs.View.{view}
use Rattle.tinyvec_array.specs.CutLaws.{KeptOf}
use Rattle.tinyvec_slots.specs.Ends.{front, back, given_items}
use Rattle.tinyvec_slots.proofs.Lists.{length-slice_range}
use Rattle.tinyvec_slots.specs.Splice.{splice_view, splice_front, splice_left, splice_back, SpliceKeeps}
use Rattle.tinyvec_slots.proofs.FinishLemmas.{finished_len}
use Rattle.tinyvec_array.specs.SpliceLaws.{kept_refl, kept_then}
use Rattle.tinyvec_examples.proofs.SpliceCounted.{Counts, splice_counted, kept_around, touched_at_least, touched_at_most}
use Rattle.tinyvec_examples.proofs.splicing.touches_of_replace.Goals.{Joined-finished}
use Rattle.tinyvec_examples.proofs.splicing.touches_of_replace.Goals as goal

module _ (g : _) (c : Joined-finished g) where
  counts : Counts (splice_view (λ v. (view g.A.Slots v).items)) (SpliceKeeps (λ v. (view g.A.Slots v).items) (KeptOf g.A.Slots)) c.splice-splice.result (c.one_from_each_end-first.result.0 ∷ c.one_from_each_end-first.result.1 ∷ []) c.one_from_each_end-first.new.splice
  counts =
      splice_counted (λ v. (view g.A.Slots v).items) (KeptOf g.A.Slots) (kept_refl g.A.Slots) (kept_then g.A.Slots) (fuse_steps g.I.Iterator.next_gives) (fuse_steps g.I.DoubleEndedIterator.next_back_gives) c.splice-splice.result (front ∷ back ∷ []) _ c.one_from_each_end-first.new.splice c.one_from_each_end-first.ensures.asked

  -- what is around the range, and in it
  around : length (splice_front (λ v. (view g.A.Slots v).items) c.splice-splice.result) + length (splice_back (λ v. (view g.A.Slots v).items) c.splice-splice.result) ≡ length (view g.A.Slots c.args.vec.now).items - (c.args.end - c.args.start)
  around =
      let xs = (view g.A.Slots c.args.vec.now).items in
      let made = c.splice-splice.ensures in
      let one = ap length made.begins.front ∙ length-take-le c.args.start xs (omega (arith, c.requires.start_le_end, c.requires.in_bounds)) in
      let two = ap length made.begins.back ∙ length-drop c.args.end xs in
      omega (arith, c.requires.start_le_end, c.requires.in_bounds)

  inside : length (splice_left (λ v. (view g.A.Slots v).items) c.splice-splice.result) ≡ c.args.end - c.args.start
  inside = ap length c.splice-splice.ensures.begins.left ∙ length-slice_range (view g.A.Slots c.args.vec.now).items c.args.start c.args.end c.requires.start_le_end c.requires.in_bounds

  within : length (splice_front (λ v. (view g.A.Slots v).items) c.one_from_each_end-first.new.splice) + length (splice_back (λ v. (view g.A.Slots v).items) c.one_from_each_end-first.new.splice) ≤ length (view g.A.Slots c.finish_counted-finished.new.self.0).items
  within =
      let long = finished_len (fuse_steps g.I.Iterator.next_gives) _ (splice_view (λ v. (view g.A.Slots v).items) c.one_from_each_end-first.new.splice) (view g.A.Slots c.finish_counted-finished.new.self.0).items c.finish_counted-finished.result.0 c.finish_counted-finished.ensures.finish.finished in
      omega arith

pub returns-clause-kept : goal.returns-clause-kept
returns-clause-kept g c =
    let same = (counts g c).kept.same_reference in
    let lender = c.splice-splice.ensures.same_reference in
    let kept = kept_around c.splice-splice.result c.one_from_each_end-first.new.splice _ (view g.A.Slots c.finish_counted-finished.new.self.0).items (counts g c) c.splice-splice.ensures.begins.touches (within g c) in
    let is = around g c in
    let fact : length (view g.A.Slots c.args.vec.now).items - (c.args.end - c.args.start) ≤ length (view g.A.Slots c.finish_counted-finished.new.self.0).items = omega arith in
    subst (λ w. length (view g.A.Slots c.args.vec.now).items - (c.args.end - c.args.start) ≤ length (view g.A.Slots w).items) (search rules) fact

pub returns-clause-at_least : goal.returns-clause-at_least
returns-clause-at_least g c =
    let same = (counts g c).kept.same_reference in
    let lender = c.splice-splice.ensures.same_reference in
    let v = c.finish_counted-finished.new.self.0 in
    let least = touched_at_least c.splice-splice.result c.one_from_each_end-first.new.splice _ (view g.A.Slots v).items (counts g c) c.splice-splice.ensures.begins.touches (within g c) c.finish_counted-finished.result.1 _ (c.finish_counted-finished.ensures.touches refl) in
    let given = length (given_items (c.one_from_each_end-first.result.0 ∷ c.one_from_each_end-first.result.1 ∷ [])) in
    let fact : given + (length (view g.A.Slots v).items - (length (view g.A.Slots c.args.vec.now).items - (c.args.end - c.args.start))) ≤ c.finish_counted-finished.result.1 =
    subst (λ n. given + (length (view g.A.Slots v).items - n) ≤ c.finish_counted-finished.result.1) (around g c) least in
    subst (λ w. given + (length (view g.A.Slots w).items - (length (view g.A.Slots c.args.vec.now).items - (c.args.end - c.args.start))) ≤ c.finish_counted-finished.result.1) (search rules) fact

pub returns-clause-at_most : goal.returns-clause-at_most
returns-clause-at_most g c =
    let same = (counts g c).kept.same_reference in
    let lender = c.splice-splice.ensures.same_reference in
    let v = c.finish_counted-finished.new.self.0 in
    let old = c.args.vec.now in
    let touches = c.finish_counted-finished.result.1 in
    let most = touched_at_most c.splice-splice.result c.one_from_each_end-first.new.splice _ (view g.A.Slots v).items (counts g c) c.splice-splice.ensures.begins.touches (within g c) touches _ (c.finish_counted-finished.ensures.touches refl) in
    let is = around g c in
    let all = inside g c in
    let slots = (counts g c).kept.kept.1.1 ∙ ap (λ v. length (view g.A.Slots v).items) c.splice-splice.ensures.slots in
    let fact : touches ≤ (c.args.end - c.args.start) + (length (view g.A.Slots v).items - (length (view g.A.Slots old).items - (c.args.end - c.args.start))) + max (length (view g.A.Slots old).items) (length (view g.A.Slots v).items) = omega (arith, most, is, all, slots) in
    subst (λ w. touches ≤ (c.args.end - c.args.start) + (length (view g.A.Slots w).items - (length (view g.A.Slots old).items - (c.args.end - c.args.start))) + max (length (view g.A.Slots old).items) (length (view g.A.Slots w).items)) (search rules) fact
