-- Lemmas on the end of a splice.
use Rattle.std.proofs.Common.{◌≡◌, ◌+◌, ◌-◌, ◌*◌, ◌<◌, ◌≤◌, ℕ, true, false, List, ◌∷◌, ◌++◌, min, length, take, drop, Option, Some, Result, Ok, Err, MatchResult, refl, sym, ap, ◌∙◌, append_assoc, arith, length-append, length-take, length-drop}
use Rattle.std.proofs.iter.runs.Lists.{Yields-both}
use Rattle.std.proofs.lemmas.Result.{MatchResult-weaker}
use Rattle.std.specs.Iterator.{Drains, Yields, YieldsThen}
use Rattle.tinyvec_slots.specs.Filling.{ShowsItems}
use Rattle.tinyvec_slots.specs.AnySplice.{SpliceView, Finishes, FinishesWith, FinishTouches}
use Rattle.tinyvec_slots.specs.declared.no_room.NoRoom.{NoRoom}
use Rattle.tinyvec_slots.proofs.FillingLemmas.{drained, refused}

module _ {I T : Type 0} (gives : I → Option T → I → Type 0) (capacity : ℕ) (s : SpliceView I T) (list : List T) where
  -- how long the list is
  pub finished_len : (result : Result Unit (NoRoom T I)) (h : Finishes gives capacity s result list)
      → length list ≡ length s.front + length h.placed + length s.back
  finished_len result h = rw (h.list_is, length-append, length-append)

  -- it is no shorter than what it was put into
  pub finished_longer : (at : ℕ) (xs : List T) → s.front ≡ take at xs → s.back ≡ drop at xs → (result : Result Unit (NoRoom T I))
      → Finishes gives capacity s result list → length xs ≤ length list
  finished_longer at xs front back result h =
      let long = finished_len result h in
      omega (arith, ap length front ∙ length-take at xs, ap length back ∙ length-drop at xs)

  -- of a replacement of which it is known what it still gives
  pub finishes_with : (rest : I → List T) → ShowsItems gives rest → (result : Result Unit (NoRoom T I))
      → Finishes gives capacity s result list → FinishesWith rest capacity s result list
  finishes_with rest shows (Ok u) h =
      let all : rest s.replacement ≡ h.placed = drained gives rest shows s.replacement h.placed h.ran.0 h.ran.1 in
      let long = finished_len (Ok u) h in
      let count = ap length all in record {
        succeeds = (λ e. omega (arith, h.fits), λ le. refl);
        all = h.list_is ∙ ap (λ xs. s.front ++ xs ++ s.back) (sym all);
        refused = tt;
      }
  finishes_with rest shows (Err back) h =
      let all : rest s.replacement ≡ h.placed ++ back.item ∷ rest back.rest = refused gives rest shows s.replacement h.placed back.item back.rest h.ran in
      let long = finished_len (Err back) h in
      let count = ap length all ∙ length-append h.placed (back.item ∷ rest back.rest) in record {
        succeeds = (λ e. absurd (let no : false ≡ true = e in cc), λ le. absurd (omega (arith, h.full)));
        all = tt;
        refused = (h.placed, all, h.list_is, h.full);
      }

-- what a run gave that ended so
abbrev Ran : {I T : Type 0} → (I → Option T → I → Type 0) → I → List T → Result Unit (NoRoom T I) → Type 0
Ran gives s placed result = MatchResult result (λ _. Drains gives s placed) (λ refused. YieldsThen gives s placed (Some refused.item) refused.rest)

-- one run after another
pub ran_on : {I T : Type 0} (gives : I → Option T → I → Type 0) (s t : I) (xs ys : List T) (result : Result Unit (NoRoom T I))
    → Yields gives s xs t → Ran gives t ys result → Ran gives s (xs ++ ys) result
ran_on gives s t xs ys result run ran =
    MatchResult-weaker result ran (λ u h. (h.0, (h.1.0, Yields-both gives xs ys s t h.1.0 run h.1.1, h.1.2)))
    (λ back h. (h.0, Yields-both gives xs ys s t h.0 run h.1, h.2))

-- how a splice ended that filled its gap with `placed`, which left `mid`
module _ {I T : Type 0} (gives : I → Option T → I → Type 0) (capacity : ℕ) (s mid : SpliceView I T) (placed : List T)
    (front_is : mid.front ≡ s.front ++ placed) (back_is : mid.back ≡ s.back) where
  -- the replacement ended there, and the gap was closed
  pub finishes_closed : (u : Unit) (list : List T) → Drains gives s.replacement placed → list ≡ mid.front ++ mid.back → length list ≤ capacity
      → Finishes gives capacity s (Ok u) list
  finishes_closed u list ran is fits = record {
    placed = placed;
    ran = ran;
    list_is = is ∙ rw (front_is, back_is);
    full = tt;
    fits = fits;
  }

  -- more was brought in there
  pub finishes_appended : (result : Result Unit (NoRoom T I)) (list : List T) → Yields gives s.replacement placed mid.replacement
      → Finishes gives capacity mid result list → Finishes gives capacity s result list
  finishes_appended result list run h = record {
    placed = placed ++ h.placed;
    ran = ran_on gives s.replacement mid.replacement placed h.placed result run h.ran;
    list_is = h.list_is ∙ rw (front_is, back_is, append_assoc s.front placed h.placed);
    full = h.full;
    fits = h.fits;
  }

-- How many touches `finish` needed of s, whose list was in `slots` slots, with the gap from `front` up to `back`.
module _ {I T : Type 0} (s : SpliceView I T) (slots : ℕ) (list : List T) (front back : ℕ)
    (front_len : length s.front ≡ min front slots) (back_len : length s.back ≡ slots - back) (within : back ≤ slots) where
  -- the replacement ended at `at`, and the gap was closed
  pub touches_closed : (at : ℕ) → front ≤ at → at < back → slots ≡ length list + (back - at)
      → FinishTouches s slots list (s.touches + 2 * (at - front) + (slots - at))
  touches_closed at least most shorter = record {
    filled = λ e. absurd (omega arith);
    closed = λ _. omega arith;
    at_least = omega arith;
    at_most = omega arith;
  }

  -- the gap was filled, and more was appended with n touches
  pub touches_appended : {n filled : ℕ} → front ≤ back → slots ≤ length list → filled ≡ s.touches + 2 * (back - front)
      → (length list ≡ slots → n ≡ filled) → filled + (length list - slots) ≤ n → n ≤ filled + (length list - slots) + (length list - back)
      → FinishTouches s slots list n
  touches_appended order longer is none least most = record {
    filled = λ e. omega (arith, none e);
    closed = λ lt. absurd (omega arith);
    at_least = omega arith;
    at_most = omega arith;
  }
