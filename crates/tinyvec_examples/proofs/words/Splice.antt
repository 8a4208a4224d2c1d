-- Examples of a splice s of `[1, 2, 3, 4] [0]` over 1..3, from which nothing was taken, and of one t that a call leaves.
use Rattle.std.proofs.Common.{◌≡◌, ℕ, ◌≤◌, List, [], ◌∷◌, ◌++◌, length, Option, Some, refl, ap, ◌∙◌, rules}
use Rattle.std.specs.declared.iter.Fuse.{Fuse}
use Rattle.std.specs.declared.iter.Iterator as Iterator
use Rattle.std.specs.Prelude.{Ok}
use Rattle.std.specs.Iterator.{YieldsLast}
use Rattle.std.specs.Iterator.Adapters.{fuse_steps}
use Rattle.tinyvec_slots.specs.Ends as ends
use Rattle.tinyvec_slots.specs.Ends.{RunsWord, answered_by}
use Rattle.tinyvec_slots.specs.Fused.{fused_rest}
use Rattle.tinyvec_slots.proofs.EndsLemmas.{TakesFromEnds-computes}
use Rattle.tinyvec_array.specs.IntoIter.{GivesFirst}
use Rattle.tinyvec_slots.specs.Slots.{SlotRule}
use Rattle.tinyvec_slots.specs.Touches.{touch_count}
use Rattle.tinyvec_array.proofs.Named.{array_slots}
use Rattle.tinyvec_array.specs.ArrayVec.{array_view, items, all_slots}
use Rattle.tinyvec_array.specs.View.{StaysInPlace, view}
use Rattle.tinyvec_array.specs.CutLaws.{KeptOf}
use Rattle.tinyvec_array.specs.declared.slots.Slots as Storage
use Rattle.tinyvec_array.specs.declared.bound.UpTo.{UpTo}
use Rattle.tinyvec_array.specs.declared.array_vec.ArrayVec.{ArrayVec}
use Rattle.tinyvec_slots.specs.declared.splice.Splice.{Splice}
use Rattle.tinyvec_slots.specs.Splice.{splice_view, splice_front, splice_left, splice_len, splice_back, splice_replacement, splice_touches, splice_vec, splice_lender, SpliceCanStep, SpliceCanNext, SpliceSteps, SpliceStepsBack, SpliceKeeps, SplicesFromEnds, SpliceEnds}
use Rattle.tinyvec_examples.proofs.words.Shown.{D, array_over}

-- an array of 5 slots
abbrev G : Storage.Ghosts (List ℕ) ℕ (UpTo 5)
G = array_slots 5

module _ (s t : Splice (ArrayVec (List ℕ) (UpTo 5)) (Fuse (List ℕ))) (vec : s.vec.now ≡ array_over (1 ∷ 2 ∷ 3 ∷ 4 ∷ []) (0 ∷ [])) (front : s.gap.front ≡ 1) (next : s.gap.next ≡ 1) (end : s.gap.end ≡ 3) (back : s.gap.back ≡ 3) (touches : touch_count s.gap.touches ≡ 0) where
  pub example-splice_view : (splice_view items s).left ≡ 2 ∷ 3 ∷ []
  example-splice_view = rw (vec, next, end) refl

  pub example-splice_front : splice_front items s ≡ 1 ∷ []
  example-splice_front = rw (vec, front) refl

  pub example-splice_left : splice_left items s ≡ 2 ∷ 3 ∷ []
  example-splice_left = rw (vec, next, end) refl

  pub example-splice_len : splice_len s ≡ 2
  example-splice_len = rw (next, end) refl

  pub example-splice_back : splice_back items s ≡ 4 ∷ []
  example-splice_back = rw (vec, back) refl

  pub example-splice_replacement : splice_replacement s ≡ s.replacement
  example-splice_replacement = refl

  pub example-splice_touches : splice_touches items s ≡ 0
  example-splice_touches = touches

  pub example-splice_vec : splice_vec s ≡ array_over (1 ∷ 2 ∷ 3 ∷ 4 ∷ []) (0 ∷ [])
  example-splice_vec = vec

  pub example-splice_lender : splice_lender s ≡ s.vec.ghost_name
  example-splice_lender = refl

  pub example-SpliceCanStep : SpliceCanStep items s → splice_len s ≤ 4
  example-SpliceCanStep h = search rules

  pub example-SpliceCanNext : (can : List ℕ → Type 0) → SpliceCanNext items can s → SpliceCanStep items s
  example-SpliceCanNext can h = h.0

  pub example-SpliceSteps : (gives : Fuse (List ℕ) → Option ℕ → Fuse (List ℕ) → Type 0) → SpliceSteps items (KeptOf G) gives s (Some 2) t → splice_left items s ≡ 2 ∷ splice_left items t
  example-SpliceSteps gives h = h.0.left

  pub example-SpliceStepsBack : (gives : Fuse (List ℕ) → Option ℕ → Fuse (List ℕ) → Type 0) → SpliceStepsBack items (KeptOf G) gives s (Some 3) t → splice_left items s ≡ splice_left items t ++ 3 ∷ []
  example-SpliceStepsBack gives h = h.0.left

  pub example-SpliceEnds : (iter : Iterator.Ghosts (List ℕ) ℕ) → SpliceEnds items (λ v. length (all_slots v)) (λ v w. StaysInPlace D (view G v) (view G w)) iter s (Ok tt) (array_over (1 ∷ 7 ∷ 4 ∷ []) (0 ∷ 0 ∷ [])) → SlotRule D (array_view (splice_vec s)) (array_view (array_over (1 ∷ 7 ∷ 4 ∷ []) (0 ∷ 0 ∷ [])))
  example-SpliceEnds iter h = h.changes.slot_rule

  pub example-SpliceKeeps : SpliceKeeps items (KeptOf G) s t → splice_lender t ≡ splice_lender s
  example-SpliceKeeps h = h.same_reference

  -- the last item is taken, then the first
  pub example-SplicesFromEnds : (answers : List (Option ℕ)) → SplicesFromEnds items (KeptOf G) GivesFirst s
      → RunsWord (SpliceSteps items (KeptOf G) (fuse_steps GivesFirst)) (SpliceStepsBack items (KeptOf G) (YieldsLast (fused_rest (λ left. left)))) s (ends.back ∷ ends.front ∷ []) answers t → answers ≡ Some 3 ∷ Some 2 ∷ []
  example-SplicesFromEnds answers h runs =
      let takes = (h (λ left. left) (λ s r t first. first) (ends.back ∷ ends.front ∷ []) answers t runs).0 in
      (TakesFromEnds-computes (splice_left items s) (ends.back ∷ ends.front ∷ []) answers (splice_left items t) takes).0 ∙ ap (answered_by (ends.back ∷ ends.front ∷ [])) example-splice_left

pub example-KeptOf : KeptOf G (array_over (1 ∷ 2 ∷ []) (0 ∷ 0 ∷ 0 ∷ [])) (array_over (3 ∷ 4 ∷ []) (0 ∷ 0 ∷ 0 ∷ []))
example-KeptOf = (refl, (refl, refl))
