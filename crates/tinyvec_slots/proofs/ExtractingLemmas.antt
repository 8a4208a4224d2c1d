-- The turns of the loop under `extract_if`, and what its steps yield. Of the items that were turned down `ExtractsNext` says that
-- a call found none among them.
use Rattle.std.proofs.Common.{◌≡◌, ℕ, ◌+◌, ◌-◌, ◌<◌, ◌≤◌, Bool, true, false, List, [], ◌∷◌, ◌++◌, length, get_or, set, take, drop, slice_range, Option, Some, None, refl, sym, ap, ◌∙◌, subst, arith, append-nil, append_assoc, drop-set-lt, length-set}
use Rattle.std.proofs.lemmas.Grind.{drop_more_same}
use Rattle.std.proofs.lemmas.List.{take-set-le, get_or-set_same, drop-drop}
use Rattle.std.proofs.lemmas.List.Edits.{between_none}
use Rattle.std.proofs.iter.runs.Lists.{Everywhere, one_more, none-some, same_Some}
use Rattle.std.proofs.iter.runs.Made.{took, each}
use Rattle.std.specs.Borrow.{MutBor}
use Rattle.std.specs.Fn.{CalledAtMut, Mut}
use Rattle.std.specs.Iterator.{Yields}
use Rattle.std.specs.List.Retain.{ExtractsNext, IsChosenBy}
use Rattle.tinyvec_slots.specs.Extracting.{EachIsChosen, ExtractSteps}
use Rattle.tinyvec_slots.specs.declared.extracting.ExtractIf.{ExtractIf}
use Rattle.tinyvec_slots.proofs.Lists.{item_at, one_item, parted, slice_range_first}

-- R turned down the items of us, and the next call goes on at vs
then_asks : {S X : Type 0} (R : S → X → Bool → S → X → Type 0) (s t u : S) (us ks vs kept rest : List X) (r : Option X)
    → ExtractsNext R s us None t ks [] → ExtractsNext R t vs r u kept rest → ExtractsNext R s (us ++ vs) r u (ks ++ kept) rest
then_asks R s t u [] ks vs kept rest r turned next = rw (turned.2, ← turned.1) next
then_asks R s t u (x ∷ us) ks vs kept rest r (true, v, y, asked, found) next = absurd (none-some y found.0)
then_asks R s t u (x ∷ us) ks vs kept rest r (false, v, y, asked, (ls, turned, is)) next =
    (false, v, y, asked, (ls ++ kept, then_asks R v t u us ls vs kept rest r turned next, ap (λ l. l ++ kept) is))

module _ {S X : Type 0} (R : S → X → Bool → S → X → Type 0) (s : S) (xs : List X) (front gap end : ℕ) where
  -- R turned down the items of xs from `front + gap` up to i, which moved down over the gap. It goes on at t.
  pub record TurnedDown (t : S) (ys : List X) (i : ℕ) : Type 0 where
    pub kept : List X
    pub asked : ExtractsNext R s (slice_range xs (front + gap) i) None t kept []
    pub front_is : take (i - gap) ys ≡ take front xs ++ kept
    pub later : drop i ys ≡ drop i xs

  pub turned_none : TurnedDown s xs (front + gap)
  turned_none =
      let same : front + gap - gap ≡ front = omega arith in record {
        kept = [];
        asked = rw (between_none xs (front + gap)) (refl, refl, refl, refl);
        front_is = ap (λ n. take n xs) same ∙ sym (append-nil (take front xs));
        later = refl;
      }

  -- what the calls found and left, as `take_chosen` says it
  abbrev pub Found : Option X → S → List X → ℕ → ℕ → Type 0
  Found r t ys to from = (kept : List X) × ExtractsNext R s (slice_range xs (front + gap) end) r t kept (slice_range ys from end) × (take to ys ≡ take front xs ++ kept)

  module _ (t : S) (ys : List X) (i : ℕ) (h : TurnedDown t ys i) where
    pub back_same : i ≤ end → drop end ys ≡ drop end xs
    back_same le =
        let there : i + (end - i) ≡ end = omega arith in
        rw (drop-drop (end - i) i ys, drop-drop (end - i) i xs, there) at (ap (drop (end - i)) h.later)

    -- at the end
    pub found_none : (from : ℕ) → i ≡ end → from ≡ end → Found None t ys (end - gap) from
    found_none from last same = (
      h.kept,
      rw (same, between_none ys end) (subst (λ n. ExtractsNext R s (slice_range xs (front + gap) n) None t h.kept []) last h.asked),
      ap (λ n. take (n - gap) ys) (sym last) ∙ h.front_is,
    )

    -- a turn at i, where the question left y
    module _ (u : S) (x y : X) (low : front + gap ≤ i) (lt : i < end) (le : end ≤ length ys) (is : x ≡ get_or ys i x) where
      ahead : take (i - gap) (set ys i y) ≡ take front xs ++ h.kept
      ahead = take-set-le (i - gap) ys i y (omega arith) ∙ h.front_is

      pub found_back : (d : X) → drop end (set (set ys i y) i d) ≡ drop end xs
      found_back d = drop-set-lt end (set ys i y) i d lt ∙ drop-set-lt end ys i y lt ∙ back_same (omega arith)

      -- the item stays, and was moved down
      pub turned_more : (zs : List X) → R t x false u y → drop (i + 1) zs ≡ drop (i + 1) (set ys i y)
          → take (i - gap + 1) zs ≡ take (i - gap) (set ys i y) ++ take 1 (drop i (set ys i y)) → TurnedDown u zs (i + 1)
      turned_more zs asked behind moved =
          let on : i + 1 - gap ≡ i - gap + 1 = omega arith in
          let shown : slice_range xs i (i + 1) ≡ x ∷ [] = ap (take (i + 1 - i)) (sym h.later) ∙ one_item ys i (i + 1) x refl (omega arith) is in
          let left = item_at (set ys i y) i y (omega (arith, length-set ys i y)) (sym (get_or-set_same ys i y y (omega arith))) in record {
            kept = h.kept ++ y ∷ [];
            asked = rw (parted xs (front + gap) i (i + 1) low (omega arith), shown)
                (then_asks R s t u _ h.kept (x ∷ []) (y ∷ []) [] None h.asked (false, u, y, asked, ([], (refl, refl, refl, refl), refl)));
            front_is = ap (λ n. take n zs) on ∙ moved ∙ rw (left, ahead) (append_assoc (take front xs) h.kept (y ∷ []));
            later = behind ∙ drop-set-lt (i + 1) ys i y (omega arith) ∙ drop_more_same ys xs i h.later;
          }

      -- the item is taken, and leaves d
      pub found_some : (d r : X) → R t x true u y → r ≡ y → (from : ℕ) → from ≡ i + 1 → Found (Some r) u (set (set ys i y) i d) (i - gap) from
      found_some d r asked same from next =
          let zs = set (set ys i y) i d in
          let rest : slice_range (set ys i y) (i + 1) end ≡ slice_range zs from end = rw (next, drop-set-lt (i + 1) (set ys i y) i d (omega arith)) refl in
          let shown : slice_range xs i end ≡ x ∷ slice_range zs from end =
          ap (take (end - i)) (sym h.later) ∙ slice_range_first ys i end x y lt le is ∙ ap (λ l. x ∷ l) rest in (
            h.kept,
            rw (parted xs (front + gap) i end low (omega arith), shown)
                (rw (append-nil h.kept) at (then_asks R s t u _ h.kept (x ∷ slice_range zs from end) [] (slice_range zs from end) (Some r) h.asked (true, u, y, asked, (ap Some same, refl, refl, refl)))),
            take-set-le (i - gap) (set ys i y) i d (omega arith) ∙ ahead,
          )

module _ {S X : Type 0} (R : S → X → Bool → S → X → Type 0) where
  -- an item that a call yields is one that R chose
  chosen : (s : S) (xs : List X) (x : X) (t : S) (kept rest : List X) → ExtractsNext R s xs (Some x) t kept rest → IsChosenBy R x
  chosen s [] x t kept rest h = absurd (none-some x (sym h.0))
  chosen s (z ∷ xs) x t kept rest (true, u, y, asked, found) =
      (s, z, u, subst (R s z true u) (same_Some y x (sym found.0)) asked)
  chosen s (z ∷ xs) x t kept rest (false, u, y, asked, later) = chosen u xs x t later.0 rest later.1

module _ {V T F : Type 0} (items : V → List T) (Truncated : V → V → Type 0) (g : Mut F (MutBor T × Unit {0}) (Bool × (MutBor T × Unit {0}))) where
  -- so each item of a run is
  all_chosen : (e : ExtractIf V F T) (xs : List T) (later : ExtractIf V F T) → Yields (ExtractSteps items Truncated g) e xs later
      → Everywhere xs (IsChosenBy (CalledAtMut g))
  all_chosen e [] later run = λ k. tt
  all_chosen e (x ∷ xs) later (next, step, run) =
      one_more (IsChosenBy (CalledAtMut g)) x xs (chosen (CalledAtMut g) _ _ x _ step.kept _ step.asked) (all_chosen next xs later run)

  pub each_is_chosen : EachIsChosen items Truncated g
  each_is_chosen p _ = each p (IsChosenBy (CalledAtMut g)) (all_chosen p.from p.items (took p).0 (took p).1)
