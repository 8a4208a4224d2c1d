use Rattle.std.proofs.Common.{◌≡◌, ◌-◌, [], ◌∷◌, ◌++◌, take, drop, OnOk, OnErr, IfErr, refl, ap, subst, ◌∙◌, arith, rules, length}
use Rattle.std.proofs.lemmas.List.{length-take-le, length-drop}
use Rattle.tinyvec_slots.specs.Ends.{front, back}
use Rattle.tinyvec_slots.specs.Fused.{fused_rest}
use Rattle.tinyvec_slots.specs.SplicedByWord.{IsSpliceRefused}
use Rattle.tinyvec_slots.proofs.Lists.{length-slice_range}
use Rattle.tinyvec_slots.proofs.SpliceLemmas.{runs_from_ends}
use Rattle.tinyvec_slots.proofs.AnySpliceLemmas.{spliced_len}
use Rattle.tinyvec.specs.TinyVec.{view}
use Rattle.tinyvec.specs.View.{SpareRule, place_pushed}
use Rattle.tinyvec.specs.Room.{GrowsByPushes}
use Rattle.tinyvec.specs.FrameLaws.{FrameOf, SameFrame-refl}
use Rattle.tinyvec.specs.SpliceLaws.{frame_grows}
use Rattle.tinyvec_slots.specs.Splice.{splice_view, splice_replacement, splice_vec, SpliceKeeps}
use Rattle.tinyvec_examples.proofs.SpliceEnded.{ended_list, ended_refused}
use Rattle.tinyvec_examples.proofs.tiny_splicing.replace.Goals as goal

pub returns-clause-list : goal.returns-clause-list
returns-clause-list g c = λ rest ends.
    let R = fused_rest rest in
    let s = c.splice-splice.result in
    let t = c.one_from_each_end-ends.new.splice in
    let v = c.finish.new.self.0 in
    let result = c.finish.result in
    let made = c.splice-splice.ensures in
    let xs = (view g.A.Slots c.args.vec.now).items in
    let P = rest c.args.replacement in
    let answers = c.one_from_each_end-ends.result.0 ∷ c.one_from_each_end-ends.result.1 ∷ [] in
    let along = (made.both_ends rest ends.first (front ∷ back ∷ []) answers t (
    runs_from_ends (λ v. (view g.A.Slots v).items) (FrameOf g.A.Slots) g.I.Iterator.next_gives g.I.DoubleEndedIterator.next_back_gives rest ends.last s (front ∷ back ∷ []) answers t c.one_from_each_end-ends.ensures.asked)).1 in
    let whole : R (splice_replacement s) ≡ P = rw made.unasked (rw made.replacement refl) in
    let finished = c.finish.ensures.listed rest ends.first in
    let n = length-slice_range xs c.args.start c.args.end c.requires.start_le_end c.requires.in_bounds in
    let list : OnOk result ((view g.A.Slots v).items ≡ take c.args.start xs ++ P ++ drop c.args.end xs) =
    ended_list R (view g.A.Slots v).place.capacity s t (front ∷ back ∷ []) (view g.A.Slots v).items _ _ _ P along made.begins.front made.begins.left made.begins.back whole result finished in
    let unplaced = ended_refused R (view g.A.Slots v).place.capacity s t (front ∷ back ∷ []) (view g.A.Slots v).items _ _ _ P along made.begins.front made.begins.left made.begins.back whole result finished in
    let counted_out = subst (λ k. IfErr result (λ refused. IsSpliceRefused (front ∷ back ∷ []) k (take c.args.start xs) (drop c.args.end xs) P (view g.A.Slots v).items (refused.item ∷ R refused.rest))) n unplaced in
    let same = along.kept.same_reference in
    let lender = made.same_reference in (
      subst (λ l. OnOk result (l ≡ take c.args.start xs ++ P ++ drop c.args.end xs)) (search rules) list,
      subst (λ l. IfErr result (λ refused. IsSpliceRefused (front ∷ back ∷ []) (c.args.end - c.args.start) (take c.args.start xs) (drop c.args.end xs) P l (refused.item ∷ R refused.rest))) (search rules) counted_out,
    )

pub returns-clause-succeeds : goal.returns-clause-succeeds
returns-clause-succeeds g c = λ rest ends room.
    let s = c.splice-splice.result in
    let t = c.one_from_each_end-ends.new.splice in
    let made = c.splice-splice.ensures in
    let xs = (view g.A.Slots c.args.vec.now).items in
    let P = rest c.args.replacement in
    let answers = c.one_from_each_end-ends.result.0 ∷ c.one_from_each_end-ends.result.1 ∷ [] in
    let along = (made.both_ends rest ends.first (front ∷ back ∷ []) answers t (
    runs_from_ends (λ v. (view g.A.Slots v).items) (FrameOf g.A.Slots) g.I.Iterator.next_gives g.I.DoubleEndedIterator.next_back_gives rest ends.last s (front ∷ back ∷ []) answers t c.one_from_each_end-ends.ensures.asked)).1 in
    let whole : fused_rest rest (splice_replacement s) ≡ P = rw made.unasked (rw made.replacement refl) in
    let one = length-take-le c.args.start xs (omega (arith, c.requires.start_le_end, c.requires.in_bounds)) in
    let two = length-drop c.args.end xs in
    let sum = spliced_len (splice_view (λ v. (view g.A.Slots v).items)) (SpliceKeeps (λ v. (view g.A.Slots v).items) (FrameOf g.A.Slots)) (fused_rest rest) s t (front ∷ back ∷ []) xs _ _ _ P along made.begins.front made.begins.left made.begins.back whole in
    let capacity : (view g.A.Slots (splice_vec t)).place.capacity ≡ (view g.A.Slots c.args.vec.now).place.capacity =
    ap (λ p. p.capacity) along.kept.kept.place ∙ ap (λ v. (view g.A.Slots v).place.capacity) made.vec in
    c.finish.ensures.succeeds rest ends.first (omega (arith, room, one, two, sum, capacity))

pub returns-clause-full : goal.returns-clause-full
returns-clause-full g c =
    let same = c.one_from_each_end-ends.ensures.kept.same_reference in
    let lender = c.splice-splice.ensures.same_reference in
    let fact : OnErr c.finish.result (length (view g.A.Slots c.finish.new.self.0).items ≡ (view g.A.Slots c.finish.new.self.0).place.capacity) = c.finish.ensures.finished.full in
    search rules

pub returns-clause-grows : goal.returns-clause-grows
returns-clause-grows g c =
    let kept = c.one_from_each_end-ends.ensures.kept in
    let same = kept.same_reference in
    let made = c.splice-splice.ensures in
    let lender = made.same_reference in
    let D = g.A.Item.Default.is_default in
    let old = view g.A.Slots c.args.vec.now in
    let v = view g.A.Slots c.finish.new.self.0 in
    let grown = frame_grows D (view g.A.Slots (splice_vec c.splice-splice.result)) (view g.A.Slots (splice_vec c.one_from_each_end-ends.new.splice)) v v kept.kept c.finish.ensures.changes (SameFrame-refl v) in
    let from = subst (λ u. GrowsByPushes D (view g.A.Slots u) v) made.vec grown in
    record {
      items = refl;
      place = subst (λ w. (view g.A.Slots w).place ≡ place_pushed (length (view g.A.Slots w).items) old.place) (search rules) from.place;
      slot_rule = subst (λ w. SpareRule D old (view g.A.Slots w)) (search rules) from.slot_rule;
      fits = let fits = from.fits in search (rules, arith);
    }
