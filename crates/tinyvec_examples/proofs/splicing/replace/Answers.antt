use Rattle.std.proofs.Common.{◌≡◌, ◌-◌, [], ◌∷◌, ◌++◌, length, take, drop, ◌∙◌, OnOk, OnErr, IfErr, refl, subst, arith, rules}
use Rattle.std.proofs.lemmas.List.{length-take-le, length-drop}
use Rattle.std.specs.Iterator.Adapters.{fuse_steps}
use Rattle.tinyvec_array.specs.ArrayVec.{view_of, slots_of}
use Rattle.tinyvec_array.specs.View.{view}
use Rattle.tinyvec_slots.specs.Slots.{SlotRule}
use Rattle.tinyvec_slots.specs.Ends.{front, back}
use Rattle.tinyvec_slots.proofs.Lists.{length-slice_range}
use Rattle.tinyvec_slots.proofs.SpliceLemmas.{runs_from_ends}
use Rattle.tinyvec_slots.specs.Fused.{fused_rest}
use Rattle.tinyvec_slots.specs.Splice.{splice_replacement}
use Rattle.tinyvec_slots.specs.SplicedByWord.{IsSpliceRefused}
use Rattle.tinyvec_array.specs.CutLaws.{KeptOf}
use Rattle.tinyvec_array.specs.SpliceLaws.{kept_refl, kept_then}
use Rattle.tinyvec_examples.proofs.SpliceCounted.{splice_counted}
use Rattle.tinyvec_examples.proofs.SpliceEnded.{ended_fits, ended_list, ended_refused, ended_slots, ended_count}
use Rattle.tinyvec_examples.proofs.splicing.replace.Goals as goal

pub returns-clause-list : goal.returns-clause-list
returns-clause-list g c = λ rest ends.
    let R = fused_rest rest in
    let s = c.splice-splice.result in
    let t = c.one_from_each_end-ends.new.splice in
    let v = c.finish.new.self.0 in
    let result = c.finish.result in
    let made = c.splice-splice.ensures in
    let xs = (view g.A.Slots c.args.vec.now).items in
    let P = rest c.args.replacement in
    let answers = c.one_from_each_end-ends.result.0 ∷ c.one_from_each_end-ends.result.1 ∷ [] in
    let along = (made.both_ends rest ends.first (front ∷ back ∷ []) answers t (
    runs_from_ends (λ v. (view g.A.Slots v).items) (KeptOf g.A.Slots) g.I.Iterator.next_gives g.I.DoubleEndedIterator.next_back_gives rest ends.last s (front ∷ back ∷ []) answers t c.one_from_each_end-ends.ensures.asked)).1 in
    let whole : R (splice_replacement s) ≡ P = rw made.unasked (rw made.replacement refl) in
    let finished = c.finish.ensures.listed rest ends.first in
    let one = length-take-le c.args.start xs (omega (arith, c.requires.start_le_end, c.requires.in_bounds)) in
    let two = length-drop c.args.end xs in
    let n = length-slice_range xs c.args.start c.args.end c.requires.start_le_end c.requires.in_bounds in
    let count : length (slots_of g.A.Slots v) ≡ g.A.Array.CAPACITY =
    ended_count g.A.Slots s t c.args.vec.now v along.kept made.slots c.finish.ensures.changes.place ∙ g.met.A.Array.counted _ c.capacity-slots.ensures.slot_count in
    let fits = ended_fits R _ s t (front ∷ back ∷ []) (view g.A.Slots v).items _ _ _ P along made.begins.front made.begins.left made.begins.back whole result finished in
    let list : OnOk result ((view g.A.Slots v).items ≡ take c.args.start xs ++ P ++ drop c.args.end xs) =
    ended_list R _ s t (front ∷ back ∷ []) (view g.A.Slots v).items _ _ _ P along made.begins.front made.begins.left made.begins.back whole result finished in
    let unplaced = ended_refused R _ s t (front ∷ back ∷ []) (view g.A.Slots v).items _ _ _ P along made.begins.front made.begins.left made.begins.back whole result finished in
    let counted_out = subst (λ k. IfErr result (λ refused. IsSpliceRefused (front ∷ back ∷ []) k (take c.args.start xs) (drop c.args.end xs) P (view g.A.Slots v).items (refused.item ∷ R refused.rest))) n unplaced in
    let same = along.kept.same_reference in
    let lender = made.same_reference in (
      (λ ok. let le = fits.0 ok in omega (arith, le, one, two, count), λ le. fits.1 (omega (arith, le, one, two, count))),
      subst (λ w. OnOk result ((view g.A.Slots w).items ≡ take c.args.start xs ++ P ++ drop c.args.end xs)) (search rules) list,
      subst (λ w. IfErr result (λ refused. IsSpliceRefused (front ∷ back ∷ []) (c.args.end - c.args.start) (take c.args.start xs) (drop c.args.end xs) P (view g.A.Slots w).items (refused.item ∷ R refused.rest))) (search rules) counted_out,
    )

pub returns-clause-full : goal.returns-clause-full
returns-clause-full g c =
    let counts = splice_counted (λ v. (view g.A.Slots v).items) (KeptOf g.A.Slots) (kept_refl g.A.Slots) (kept_then g.A.Slots) (fuse_steps g.I.Iterator.next_gives) (fuse_steps g.I.DoubleEndedIterator.next_back_gives) c.splice-splice.result (front ∷ back ∷ [])
    (c.one_from_each_end-ends.result.0 ∷ c.one_from_each_end-ends.result.1 ∷ []) c.one_from_each_end-ends.new.splice c.one_from_each_end-ends.ensures.asked in
    let same = counts.kept.same_reference in
    let lender = c.splice-splice.ensures.same_reference in
    let v = c.finish.new.self.0 in
    let count : length (slots_of g.A.Slots v) ≡ g.A.Array.CAPACITY =
    ended_count g.A.Slots c.splice-splice.result c.one_from_each_end-ends.new.splice c.args.vec.now v counts.kept c.splice-splice.ensures.slots c.finish.ensures.changes.place
    ∙ g.met.A.Array.counted _ c.capacity-slots.ensures.slot_count in
    let full : OnErr c.finish.result (length (view g.A.Slots v).items ≡ g.A.Array.CAPACITY) = subst (λ n. OnErr c.finish.result (length (view g.A.Slots v).items ≡ n)) count c.finish.ensures.finished.full in
    subst (λ w. OnErr c.finish.result (length (view g.A.Slots w).items ≡ g.A.Array.CAPACITY)) (search rules) full

pub returns-clause-slot_rule : goal.returns-clause-slot_rule
returns-clause-slot_rule g c =
    let counts = splice_counted (λ v. (view g.A.Slots v).items) (KeptOf g.A.Slots) (kept_refl g.A.Slots) (kept_then g.A.Slots) (fuse_steps g.I.Iterator.next_gives) (fuse_steps g.I.DoubleEndedIterator.next_back_gives) c.splice-splice.result (front ∷ back ∷ [])
    (c.one_from_each_end-ends.result.0 ∷ c.one_from_each_end-ends.result.1 ∷ []) c.one_from_each_end-ends.new.splice c.one_from_each_end-ends.ensures.asked in
    let same = counts.kept.same_reference in
    let lender = c.splice-splice.ensures.same_reference in
    let fact = ended_slots g.A.Slots g.A.Item.Default.is_default c.splice-splice.result c.one_from_each_end-ends.new.splice c.args.vec.now c.finish.new.self.0 counts.kept c.splice-splice.ensures.slots c.finish.ensures.changes.slot_rule in
    subst (λ v. SlotRule g.A.Item.Default.is_default (view_of g.A.Slots c.args.vec.now) (view_of g.A.Slots v)) (search rules) fact
