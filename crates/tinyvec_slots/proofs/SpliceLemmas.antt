-- A splice along a word of ends, and what `finish` puts in.
use Rattle.std.proofs.Common.{Bool, ◌≡◌, ℕ, ◌+◌, ◌-◌, ◌<◌, ◌≤◌, ◌↔◌, List, [], ◌∷◌, ◌++◌, length, take, drop, Option, Some, None, Result, true, false, if◌then◌else◌, IsOk, OnOk, IfErr, ap, refl, subst, sym, ◌∙◌, arith}
use Rattle.std.proofs.lemmas.Bool.Decides.{nat_tests}
use Rattle.std.proofs.lemmas.Result.{IfErr-weaker}
use Rattle.std.specs.Bool.{◌==◌}
use Rattle.std.specs.declared.iter.Fuse.{Fuse}
use Rattle.std.specs.Iterator.{YieldsLast}
use Rattle.std.specs.Iterator.Adapters.{fuse_done, fuse_source, fuse_steps}
use Rattle.tinyvec_slots.specs.Ends.{End, RunsWord}
use Rattle.tinyvec_slots.specs.AnySplice.{SpliceView, FinishesWith}
use Rattle.tinyvec_slots.specs.Gap.{gap_len, gap_left, gap_touches, GapCanStep}
use Rattle.tinyvec_slots.specs.declared.gap.Gap.{Gap}
use Rattle.tinyvec_slots.specs.Fused.{HasTwoEnds, fused_rest}
use Rattle.tinyvec_slots.specs.Splice.{splice_view, splice_vec, SpliceKeeps, SpliceSteps, SpliceStepsBack, SplicesFromEnds}
use Rattle.tinyvec_slots.specs.SplicedByWord.{SplicedByWord}
use Rattle.tinyvec_slots.specs.declared.no_room.NoRoom.{NoRoom}
use Rattle.tinyvec_slots.specs.declared.splice.Splice.{Splice}
use Rattle.tinyvec_slots.proofs.EndsLemmas.{RunsWord-weaker}
use Rattle.tinyvec_slots.proofs.Fused.{fused_first, fused_last}
use Rattle.tinyvec_slots.proofs.AnySpliceLemmas as all

is_zero : (n : ℕ) → (n == 0) ≡ true → n ≡ 0
is_zero n is = grind (arith, nat_tests)

-- a gap with no removed item left
pub none_left : {T : Type 0} (gap : Gap) (xs : List T) → (gap_len gap == 0) ≡ true → gap_left gap xs ≡ []
none_left gap xs is = ap (λ n. take n (drop gap.next xs)) (is_zero (gap_len gap) is)

-- one that lost one of them
pub fewer_left : (m n : ℕ) → m ≡ n + 1 → n < m
fewer_left m n is = omega arith

pub same_most : (m n : ℕ) → m ≡ n → m ≤ n
same_most m n same = omega arith

pub one_most : (m n : ℕ) → m ≡ n + 1 → m ≤ n + 2
one_most m n same = omega arith

-- a gap that can still step after an item was taken, with at most two touches
module _ (gap new : Gap) (ended after : Bool) (slots len : ℕ) (can : GapCanStep gap ended slots) (left : 0 < gap_len gap) (long : len ≡ slots)
    (touches : gap_touches new ≤ gap_touches gap + 2) (besides : after ≡ false → (new.front ≡ new.next) × (new.end ≡ new.back)) where
  -- from the front
  pub ready_next : new.next ≡ gap.next + 1 → new.end ≡ gap.end → new.back ≡ gap.back → new.front ≤ gap.next + 1 → GapCanStep new after len
  ready_next next end back front = record {
    front_le_next = omega arith;
    next_le_end = omega arith;
    end_le_back = omega (arith, can.end_le_back);
    back_le_len = omega (arith, can.back_le_len);
    no_slot_besides = besides;
    few = omega (arith, can.few);
  }

  -- from the back
  pub ready_back : new.front ≡ gap.front → new.next ≡ gap.next → new.end ≡ gap.end - 1 → gap.end - 1 ≤ new.back → new.back ≤ gap.back → GapCanStep new after len
  ready_back front next end least back = record {
    front_le_next = omega (arith, can.front_le_next);
    next_le_end = omega arith;
    end_le_back = omega arith;
    back_le_len = omega (arith, can.back_le_len);
    no_slot_besides = besides;
    few = omega (arith, can.few);
  }

-- `same` and `onward` are laws of `CanSplice`
module _ {V I T : Type 0} (items : V → List T) (Kept : V → V → Type 0) (same : (v : V) → Kept v v) (onward : (u v w : V) → Kept u v → Kept v w → Kept u w) where
  pub keeps_same : (s : Splice V (Fuse I)) → SpliceKeeps items Kept s s
  keeps_same s = record { same_reference = refl; kept = same (splice_vec s); ready = λ can. can }

  pub keeps_then : (s mid t : Splice V (Fuse I)) → SpliceKeeps items Kept s mid → SpliceKeeps items Kept mid t → SpliceKeeps items Kept s t
  keeps_then s mid t h k = record {
    same_reference = k.same_reference ∙ h.same_reference;
    kept = onward (splice_vec s) (splice_vec mid) (splice_vec t) h.kept k.kept;
    ready = λ can. k.ready (h.ready can);
  }

  -- what its calls placed, of a replacement of which `rest` shows what it gives
  pub RunsWord-splices : (rest : Fuse I → List T) (gives gives_back : Fuse I → Option T → Fuse I → Type 0) → HasTwoEnds gives gives_back rest
      → (s : Splice V (Fuse I)) (word : List End) (answers : List (Option T)) (t : Splice V (Fuse I))
      → RunsWord (SpliceSteps items Kept gives) (SpliceStepsBack items Kept gives_back) s word answers t → SplicedByWord (splice_view items) (SpliceKeeps items Kept) rest s word t
  RunsWord-splices rest = all.RunsWord-splices (splice_view items) (SpliceKeeps items Kept) rest keeps_same keeps_then

  pub splices_from_ends : (gives : I → Option T → I → Type 0) (s : Splice V (Fuse I)) → SplicesFromEnds items Kept gives s
  splices_from_ends gives s = λ rest shows word answers later runs.
      let first = fused_first gives rest shows in (
        all.RunsWord-takes_removed (splice_view items) (SpliceKeeps items Kept) _ _ s word answers later runs,
        RunsWord-splices (fused_rest rest) _ _ (record { first = first; last = λ a r b h. h }) s word answers later runs,
      )

-- what `SplicesFromEnds` asks, of calls that take from the ends of a replacement of which `rest` shows what it gives
module _ {V I T : Type 0} (items : V → List T) (Kept : V → V → Type 0) (gives gives_back : I → Option T → I → Type 0) (rest : I → List T)
    (last : (s : I) (r : Option T) (t : I) → gives_back s r t → YieldsLast rest s r t) where
  takes_last : (s : Splice V (Fuse I)) (r : Option T) (t : Splice V (Fuse I))
      → SpliceStepsBack items Kept (fuse_steps gives_back) s r t → SpliceStepsBack items Kept (YieldsLast (fused_rest rest)) s r t
  takes_last s None t h = h
  takes_last s (Some x) t h = let step = h.0 in (
    record {
      left = step.left;
      placed = step.placed;
      asked = fused_last gives_back rest last _ _ _ step.asked;
      front = step.front;
      back = step.back;
      touches = step.touches;
    },
    h.1,
  )

  pub runs_from_ends : (s : Splice V (Fuse I)) (word : List End) (answers : List (Option T)) (t : Splice V (Fuse I))
      → RunsWord (SpliceSteps items Kept (fuse_steps gives)) (SpliceStepsBack items Kept (fuse_steps gives_back)) s word answers t
      → RunsWord (SpliceSteps items Kept (fuse_steps gives)) (SpliceStepsBack items Kept (YieldsLast (fused_rest rest))) s word answers t
  runs_from_ends = RunsWord-weaker _ _ _ takes_last

-- what `finish` puts between these two, if its replacement has not ended and `rest` shows what its source still yields
module _ {I T : Type 0} (rest : I → List T) (room : ℕ) (s : SpliceView (Fuse I) T) (before after : List T) (result : Result Unit (NoRoom T (Fuse I))) (list : List T) where
  pub puts_listed : fuse_done s.replacement ≡ false → s.front ≡ before → s.back ≡ after → FinishesWith (fused_rest rest) room s result list
      → (IsOk result ↔ (length before + length (rest (fuse_source s.replacement)) + length after ≤ room))
      × OnOk result (list ≡ before ++ rest (fuse_source s.replacement) ++ after)
      × IfErr result (λ refused. (placed : List T) × (rest (fuse_source s.replacement) ≡ placed ++ refused.item ∷ fused_rest rest refused.rest) × (list ≡ before ++ placed ++ after))
  puts_listed unasked front back h =
      let shown : fused_rest rest s.replacement ≡ rest (fuse_source s.replacement) = ap (λ ended. if ended then [] else rest (fuse_source s.replacement)) unasked in (
        subst (λ n. IsOk result ↔ (n ≤ room)) (λ i. length (front i) + length (shown i) + length (back i)) h.succeeds,
        subst (λ l. OnOk result (list ≡ l)) (λ i. front i ++ shown i ++ back i) h.all,
        IfErr-weaker result _ _ (λ refused t. (t.0, sym shown ∙ t.1, t.2 ∙ (λ i. front i ++ t.0 ++ back i))) h.refused,
      )
