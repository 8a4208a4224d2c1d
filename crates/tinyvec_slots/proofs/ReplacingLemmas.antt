-- Lemmas on a splice whose replacement is known: what it leaves, and what std's iterators yield.
use Rattle.std.proofs.Common.{◌≡◌, ℕ, ◌+◌, ◌≤◌, List, [], ◌∷◌, ◌++◌, length, Bool, true, false, Option, Result, Ok, Err, refl, ap, ◌∙◌, arith, length-append, take, drop}
use Rattle.std.specs.Bool.{MatchBool}
use Rattle.std.specs.declared.iter.Fuse.{Fuse}
use Rattle.std.specs.Iterator.{AlwaysYields}
use Rattle.std.specs.Iterator.Adapters.{fuse_done, fuse_source, fuse_steps}
use Rattle.tinyvec_slots.specs.Replacing.{FusedYields, PutsBetween}
use Rattle.tinyvec_slots.specs.AnySplice.{SpliceView, Finishes}
use Rattle.tinyvec_slots.specs.declared.no_room.NoRoom.{NoRoom}
use Rattle.tinyvec_slots.proofs.FillingLemmas.{drained_all, refused_early}

open_step : (P Q : Type 0) (ended : Bool) → ended ≡ false → MatchBool ended P Q → Q
open_step P Q true is step = absurd (let no : true ≡ false = is in cc)
open_step P Q false is step = step

-- a fused iterator yields what its source does
pub fused_yields : {S A : Type 0} (steps : S → Option A → S → Type 0) (xs : List A) (s : Fuse S) → FusedYields steps s xs
    → AlwaysYields (fuse_steps steps) (λ x. x) s xs
fused_yields steps [] s h = λ x t step. h.1 x (fuse_source t) (open_step _ _ (fuse_done s) h.0 step.0)
fused_yields steps (y ∷ ys) s h = (
  (λ t step. h.1.0 (fuse_source t) (open_step _ _ (fuse_done s) h.0 step.0)),
  λ x t step.
      let next = h.1.1 x (fuse_source t) (open_step _ _ (fuse_done s) h.0 step.0) in
      (next.0, fused_yields steps ys t (step.1, next.1)),
)

-- `finish` puts the replacement in, and refuses an item only where there are more than the vector, or any larger room that
-- it was granted, has room for
module _ {I T : Type 0} (steps : I → Option T → I → Type 0) (room granted : ℕ) (more : room ≤ granted) (s : SpliceView (Fuse I) T) (xs list : List T)
    (yields : FusedYields steps s.replacement xs) where
  pub finished_known : (result : Result Unit (NoRoom T (Fuse I))) → Finishes (fuse_steps steps) granted s result list
      → PutsBetween room s.front xs s.back result list
  finished_known (Ok u) h =
      let all = drained_all (fuse_steps steps) xs s.replacement (fused_yields steps xs s.replacement yields) h.placed h.ran.0 h.ran.1 in
      let is : list ≡ s.front ++ xs ++ s.back = h.list_is ∙ ap (λ ys. s.front ++ ys ++ s.back) all in
      (is, λ fits. (refl, is))
  finished_known (Err refused) h =
      let fewer = refused_early (fuse_steps steps) xs s.replacement (fused_yields steps xs s.replacement yields) h.placed refused.rest refused.item h.ran in
      let long : length list ≡ length s.front + length h.placed + length s.back = rw (h.list_is, length-append, length-append) in
      (tt, λ fits. absurd (omega (arith, fewer, long, more, h.full, fits)))

module _ {T : Type 0} (list : List T) where
  -- the same list by other names of its parts
  pub between : (front placed back before after : List T) → list ≡ front ++ placed ++ back → front ≡ before → back ≡ after
      → list ≡ before ++ placed ++ after
  between front placed back before after is ahead behind = is ∙ rw (ahead, behind)

  -- a replacement in the place of a range, by other names of where it starts and ends
  pub placed_at : (xs placed : List T) (start end first last : ℕ) → list ≡ take start xs ++ placed ++ drop end xs → start ≡ first → end ≡ last
      → list ≡ take first xs ++ placed ++ drop last xs
  placed_at xs placed start end first last is starts ends =
      between (take start xs) placed (drop end xs) (take first xs) (drop last xs) is (ap (λ n. take n xs) starts) (ap (λ n. drop n xs) ends)
