-- Lemmas on what refused calls leave.
use Rattle.std.proofs.Common.{◌≡◌, ℕ, ◌+◌, ◌-◌, ◌≤◌, List, [], ◌++◌, take, drop, slice_range, refl, sym, ap, subst, ◌∙◌, le_refl, arith, append-nil, add-zero, ◌<◌, length, length-take, length-take-le, length-drop}
use Rattle.std.proofs.lemmas.List.{get_or-take, get_or-drop, take_rest}
use Rattle.std.specs.Prelude.{IsTrue}
use Rattle.std.proofs.lemmas.List.Elements.{All-nil}
use Rattle.tinyvec_slots.specs.Slots.{AreDefaults}
use Rattle.std.specs.List.{AllZip}
use Rattle.tinyvec_slots.specs.Clones.{RefusedAt, ClonesOver, ClonesInPart}
use Rattle.std.proofs.lemmas.Slice.{between_is}
use Rattle.tinyvec_array.specs.ViewLaws.{rule_at}
use Rattle.tinyvec.specs.View.{TinyView, SpareRule, SameFrame}

module _ {T : Type 0} (I : T → Type 0) (xs : List T) where
  -- what was refused among the first n was refused
  pub refused_in_front : (n j : ℕ) → RefusedAt I (take n xs) j → RefusedAt I xs j
  refused_in_front n j h =
      let both : (j < n) × (j < length xs) = (omega (arith, h.0, length-take n xs), omega (arith, h.0, length-take n xs)) in
      (both.1, λ d. subst (λ x. ¬ (I x)) (get_or-take n xs j d both.0) (h.1 d))

  -- and among those behind them
  pub refused_behind : (n j : ℕ) → RefusedAt I (drop n xs) j → RefusedAt I xs (n + j)
  refused_behind n j h = (omega (arith, h.0, length-drop n xs), λ d. subst (λ x. ¬ (I x)) (get_or-drop n xs j d) (h.1 d))

  -- one of all those behind the first n
  pub refused_later : (n : ℕ) → (j : ℕ) × RefusedAt I (take (length xs - n) (drop n xs)) j → (j : ℕ) × RefusedAt I xs j
  refused_later n at = (n + at.0, refused_behind n at.0 (subst (λ l. RefusedAt I l at.0) (take_rest xs n) at.1))

-- what stands behind the list, with defaults in the slots that were vacated from m on
abbrev Behind : {T : Type 0} → (T → Type 0) → TinyView T → TinyView T → ℕ → List T → Type 0
Behind {T} D old new m spares = (freed : List T) × AreDefaults D (length old.items - m) freed × (new.spare ≡ freed ++ spares)

module _ {T : Type 0} (D I : T → Type 0) (C : T → T → Type 0) (source : List T) (old new : TinyView T) (m : ℕ) where
  abbrev InPart : Type 0
  InPart = ClonesInPart D I C source old.items new.items m (IsTrue new.place.inline) old.spare new.spare

  -- the refused clone is one of the first
  pub partly_over : (j : ℕ) → j ≤ m → RefusedAt I source j → ClonesOver C (take j source) j (take m old.items) new.items
      → (IsTrue new.place.inline → Behind D old new m old.spare) → InPart
  partly_over j le refused over spares =
      let none : m + 0 - m ≡ 0 = omega arith in
      let nothing : slice_range source m (m + 0) ≡ [] = ap (λ n. take n (drop m source)) none in
      record {
        k = j;
        j = 0;
        made = over.made;
        within = le;
        in_order = λ h. absurd (omega (arith, h));
        refused_at = rw (add-zero j) refused;
        clones = over.clones;
        listed = over.written ∙ ap (λ l. over.made ++ l) (sym (between_is old.items j m));
        left = λ i. ((spares i).0, (spares i).1, [], rw nothing tt, rw (append-nil (spares i).0) (spares i).2);
      }

  -- or one of those behind, and the list is as long
  pub partly_behind : (j : ℕ) → m ≡ length old.items → RefusedAt I source (m + j) → AllZip C (take m source) new.items
      → (IsTrue new.place.inline → ClonesOver C (take j (drop m source)) j old.spare new.spare) → InPart
  partly_behind j long refused clones spares =
      let none : m - m ≡ 0 = omega arith in
      let nothing : slice_range old.items m m ≡ [] = ap (λ n. take n (drop m old.items)) none in
      let freed : 0 ≡ length old.items - m = omega arith in
      let more : m + j - m ≡ j = omega arith in
      record {
        k = m;
        j = j;
        made = new.items;
        within = le_refl m;
        in_order = λ h. refl;
        refused_at = refused;
        clones = clones;
        listed = sym (ap (λ l. new.items ++ l) nothing ∙ append-nil new.items);
        left = λ i. ([], (freed, All-nil D), (spares i).made, rw more (spares i).clones, (spares i).written);
      }

module _ {T : Type 0} (D : T → Type 0) where
  -- the slots that a cut vacated stand as defaults before the old spare ones
  pub cut_freed : (old mid new : TinyView T) (m : ℕ) → SameFrame mid new → mid.place ≡ old.place → SpareRule D old mid
      → mid.items ≡ take m old.items → m ≤ length old.items → IsTrue new.place.inline → Behind D old new m old.spare
  cut_freed old mid new m frame same rule cut le j =
      let was = sym (ap (λ p. p.inline) frame.place) ∙ j in
      let h = rule_at D old mid rule (sym (ap (λ p. p.inline) same) ∙ was) was in
      let long : length mid.items ≡ m = ap length cut ∙ length-take-le m old.items le in
      let no_more : length mid.items - length old.items ≡ 0 = omega arith in
      (h.0, (h.1.0 ∙ ap (λ n. length old.items - n) long, h.1.1), frame.spare ∙ h.2 ∙ ap (λ n. h.0 ++ drop n old.spare) no_more)

  -- a list that is as long vacated none
  pub none_freed : (old new : TinyView T) (m : ℕ) → m ≡ length old.items → new.spare ≡ old.spare → Behind D old new m old.spare
  none_freed old new m long same = ([], (omega arith, All-nil D), same)

-- room was made first: a list that is inline afterwards had its old spare slots then
pub spare_kept : {T : Type 0} (old mid new : TinyView T) → (IsTrue mid.place.inline → mid ≡ old) → new.place ≡ mid.place
    → IsTrue new.place.inline → mid.spare ≡ old.spare
spare_kept old mid new stays place i = ap (λ v. v.spare) (stays (sym (ap (λ p. p.inline) place) ∙ i))
