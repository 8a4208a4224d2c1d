-- How many slots a splice touches.
use Rattle.std.proofs.Common.{◌≡◌, ℕ, ◌+◌, ◌-◌, ◌≤◌, max, List, [], ◌∷◌, length, Option, Some, None, sym, ap, subst, ◌∙◌, arith, length-append}
use Rattle.std.proofs.lemmas.List.{length_push}
use Rattle.std.specs.Option.{option_to_list}
use Rattle.std.specs.declared.iter.Fuse.{Fuse}
use Rattle.tinyvec_slots.specs.Ends.{End, front, back, RunsWord, given_items}
use Rattle.tinyvec_slots.specs.AnySplice.{SpliceView, Splices, SplicesBack, FinishTouches}
use Rattle.tinyvec_slots.specs.Splice.{splice_view, SpliceKeeps, SpliceSteps, SpliceStepsBack}
use Rattle.tinyvec_slots.specs.declared.splice.Splice.{Splice}
use Rattle.tinyvec_slots.proofs.SpliceLemmas.{keeps_same, keeps_then}

-- what a word placed, however the replacement gives it
pub record Counts {S I T : Type 0} (view : S → SpliceView I T) (keeps : S → S → Type 0) (s : S) (answers : List (Option T)) (t : S) : Type 0 where
  pub placed : ℕ
  pub given : length (view s).left ≡ length (view t).left + length (given_items answers)
  pub borders : length (view t).front + length (view t).back ≡ length (view s).front + length (view s).back + placed
  pub touches : (view t).touches ≡ (view s).touches + length (given_items answers) + placed
  pub kept : keeps s t

module _ {S I T : Type 0} (view : S → SpliceView I T) (keeps : S → S → Type 0) (same : (s : S) → keeps s s)
    (then : (s t u : S) → keeps s t → keeps t u → keeps s u) (gives gives_back : I → Option T → I → Type 0) where
  -- a letter where nothing is left
  nothing_given : (s : S) (answers : List (Option T)) (t : S) → Counts view keeps s answers t → Counts view keeps s (None ∷ answers) t
  nothing_given s answers t h = record {
    placed = h.placed;
    given = h.given;
    borders = h.borders;
    touches = h.touches;
    kept = h.kept;
  }

  pub counted : (s : S) (word : List End) (answers : List (Option T)) (t : S)
      → RunsWord (Splices view keeps gives) (SplicesBack view keeps gives_back) s word answers t → Counts view keeps s answers t
  counted s [] [] t is =
      subst (Counts view keeps s []) (sym is) record {
        placed = 0;
        given = omega arith;
        borders = omega arith;
        touches = omega arith;
        kept = same s;
      }
  counted s [] (r ∷ answers) t asks = absurd asks
  counted s (e ∷ word) [] t asks = absurd asks
  counted s (front ∷ word) (None ∷ answers) t asks =
      subst (λ m. Counts view keeps m (None ∷ answers) t) asks.1.1 (nothing_given asks.0 answers t (counted asks.0 word answers t asks.2))
  counted s (back ∷ word) (None ∷ answers) t asks =
      subst (λ m. Counts view keeps m (None ∷ answers) t) asks.1.1 (nothing_given asks.0 answers t (counted asks.0 word answers t asks.2))
  counted s (front ∷ word) (Some x ∷ answers) t asks =
      let step = asks.1.0 in
      let h = counted asks.0 word answers t asks.2 in
      let fewer = ap length step.left in
      let ahead = ap length step.front ∙ length-append (view s).front (option_to_list step.placed) in
      let behind = ap length step.back in record {
        placed = length (option_to_list step.placed) + h.placed;
        given = omega (arith, h.given);
        borders = omega (arith, h.borders);
        touches = omega (arith, h.touches, step.touches);
        kept = then s asks.0 t asks.1.1 h.kept;
      }
  counted s (back ∷ word) (Some x ∷ answers) t asks =
      let step = asks.1.0 in
      let h = counted asks.0 word answers t asks.2 in
      let fewer = ap length step.left ∙ length_push (view asks.0).left x in
      let ahead = ap length step.front in
      let behind = ap length step.back ∙ length-append (option_to_list step.placed) (view s).back in record {
        placed = length (option_to_list step.placed) + h.placed;
        given = omega (arith, h.given);
        borders = omega (arith, h.borders);
        touches = omega (arith, h.touches, step.touches);
        kept = then s asks.0 t asks.1.1 h.kept;
      }

-- the same of the splice of any vector, by the laws of its `CanSplice`
module _ {V I T : Type 0} (items : V → List T) (Kept : V → V → Type 0) (same : (v : V) → Kept v v) (onward : (u v w : V) → Kept u v → Kept v w → Kept u w) where
  pub splice_counted : (gives gives_back : Fuse I → Option T → Fuse I → Type 0)
      → (s : Splice V (Fuse I)) (word : List End) (answers : List (Option T)) (t : Splice V (Fuse I))
      → RunsWord (SpliceSteps items Kept gives) (SpliceStepsBack items Kept gives_back) s word answers t
      → Counts (splice_view items) (SpliceKeeps items Kept) s answers t
  splice_counted = counted (splice_view items) (SpliceKeeps items Kept) (keeps_same items Kept same onward) (keeps_then items Kept same onward)

-- how many slots were touched up to the end of a splice
module _ {S I T : Type 0} {view : S → SpliceView I T} {keeps : S → S → Type 0} (s t : S) (answers : List (Option T)) (list : List T)
    (counts : Counts view keeps s answers t) (start : (view s).touches ≡ 0)
    (within : length (view t).front + length (view t).back ≤ length list) where
  pub kept_around : length (view s).front + length (view s).back ≤ length list
  kept_around = omega (arith, counts.borders)

  pub touched_at_least : (touches slots : ℕ) → FinishTouches (view t) slots list touches
      → length (given_items answers) + (length list - (length (view s).front + length (view s).back)) ≤ touches
  touched_at_least touches slots h = omega (arith, h.at_least, counts.borders, counts.touches)

  pub touched_at_most : (touches slots : ℕ) → FinishTouches (view t) slots list touches
      → touches ≤ length (view s).left + (length list - (length (view s).front + length (view s).back)) + max slots (length list)
  touched_at_most touches slots h = omega (arith, h.at_most, counts.borders, counts.touches, counts.given)
