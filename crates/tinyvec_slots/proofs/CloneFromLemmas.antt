-- Lemmas on a list that is cut to the length of another, over whose slots clones of that other's items are then written.
use Rattle.std.proofs.Common.{◌≡◌, ℕ, ◌+◌, ◌-◌, ◌<◌, ◌≤◌, ◌⊎◌, inl, inr, min, List, [], ◌++◌, length, take, drop, slice_range, refl, sym, ap, ◌∙◌, le_refl, arith, length-take-le, length-take}
use Rattle.std.proofs.lemmas.Bool.{cases_lt}
use Rattle.std.proofs.lemmas.List.{drop-drop, take-take, take-append-le, take_min, append-nil, nil_from_length}
use Rattle.std.proofs.lemmas.List.Edits.{between_none}
use Rattle.std.proofs.lemmas.Slice.{between_is, drop-append-drop}
use Rattle.std.proofs.Math.Nat.{min_comm}
use Rattle.tinyvec_slots.specs.Slots.{Slots, AreDefaults, Vacates, SlotRule, len_in, all_slots, items_in, spare_in}
use Rattle.std.proofs.lemmas.List.Elements.{length_all_zip}
use Rattle.std.specs.Bool.{⊤}
use Rattle.std.specs.List.{AllZip}
use Rattle.tinyvec_slots.specs.Clones.{RefusedAt, ClonesInPart}
use Rattle.tinyvec_slots.proofs.CloneLemmas.{take_writes, drop_writes}
use Rattle.tinyvec_slots.proofs.ClonesOverLemmas.{AllZip-cut}

-- `cut` is `left`, which `truncate` left of `old` at n items, the length of `source`.
module _ {T : Type 0} (D I : T → Type 0) (C : T → T → Type 0) (old left cut : Slots T) (source : List T) (n : ℕ) (same : cut ≡ left) (long : n ≡ length source)
    (fits : cut.len ≤ length (all_slots cut)) (left_items : items_in left ≡ take n (items_in old)) (left_frees : Vacates D (len_in old - n) old left) where
  listed : items_in cut ≡ take (length source) (items_in old)
  listed = ap (λ v. items_in v) same ∙ left_items ∙ ap (λ k. take k (items_in old)) long

  abbrev freed : Vacates D (len_in old - length source) old cut
  freed = (left_frees.0, (left_frees.1.0 ∙ ap (λ k. len_in old - k) long, left_frees.1.1), ap (λ v. spare_in v) same ∙ left_frees.2)

  abbrev lesser : ℕ
  lesser = min (len_in old) (length source)

  cut_len : cut.len ≡ lesser
  cut_len = sym (length-take-le cut.len (all_slots cut) fits) ∙ ap length listed ∙ length-take (length source) (items_in old) ∙ min_comm (length source) (len_in old)

  as_listed : items_in cut ≡ take lesser (items_in old)
  as_listed = listed ∙ sym (take_min (length source) (items_in old)) ∙ ap (λ n. take n (items_in old)) (min_comm (length source) (len_in old))

  module _ (j : ℕ) (ws xs : List T) (refused : RefusedAt I source j) (cloned : AllZip C (take j source) ws) (written : xs ≡ ws ++ drop j (all_slots cut)) where
    abbrev InPart : Type 0
    InPart = ClonesInPart D I C source (items_in old) (take cut.len xs) lesser ⊤ (spare_in old) (drop cut.len xs)

    made : length ws ≡ j
    made = sym (length_all_zip C (take j source) ws cloned) ∙ length-take-le j source (omega (arith, refused.0))

    defaults : AreDefaults D (len_in old - lesser) freed.0
    defaults = (freed.1.0 ∙ omega arith, freed.1.1)

    -- the refused clone is one of the first
    early : j ≤ lesser → InPart
    early le =
        let L = items_in old in
        let within : j ≤ cut.len = rw cut_len le in
        let sum : j + 0 ≡ j = omega arith in
        let zero : lesser + 0 ≡ lesser = omega arith in
        let kept : slice_range (all_slots cut) j cut.len ≡ slice_range L j lesser = between_is (all_slots cut) j cut.len ∙ ap (drop j) as_listed ∙ sym (between_is L j lesser) in
        let start : take cut.len xs ≡ ws ++ slice_range L j lesser = rw (written, take_writes ws (all_slots cut) j cut.len made within, kept) in
        let rest : drop cut.len xs ≡ freed.0 ++ spare_in old = rw (written, drop-append-drop j (all_slots cut) ws cut.len within made) freed.2 in
        record {
          k = j;
          j = 0;
          made = ws;
          within = le;
          in_order = λ h. absurd (omega (arith, h));
          refused_at = rw sum refused;
          clones = cloned;
          listed = start;
          left = λ _. (freed.0, defaults, [], rw (zero, between_none source lesser) tt, rw (append-nil freed.0) rest);
        }

    -- the list is as long as it was, and clones stand behind it
    late : lesser < j → InPart
    late lt =
        let below : j < length source = refused.0 in
        let le : cut.len ≤ j = rw cut_len (omega arith) in
        let sum : lesser + (j - lesser) ≡ j = omega arith in
        let none : freed.0 ≡ [] = nil_from_length freed.0 (omega (arith, defaults.0)) in
        let start : take cut.len xs ≡ take lesser ws ++ slice_range (items_in old) lesser lesser =
        rw (written, take-append-le cut.len ws (drop j (all_slots cut)) (rw made le), cut_len, between_none (items_in old) lesser, append-nil) in
        let halves = AllZip-cut C lesser (take j source) ws cloned in
        let first : AllZip C (take lesser source) (take lesser ws) = rw (take-take lesser j source (omega arith)) at halves.0 in
        let further : drop lesser (take j source) ≡ slice_range source lesser (lesser + (j - lesser)) = rw sum (sym (between_is source lesser j)) in
        let later = rw further at halves.1 in
        let rest : drop cut.len xs ≡ drop lesser ws ++ drop (j - lesser) (spare_in old) = rw (written, drop_writes ws (all_slots cut) j cut.len made le, freed.2, none, cut_len) in
        record {
          k = lesser;
          j = j - lesser;
          made = take lesser ws;
          within = le_refl _;
          in_order = λ _. refl;
          refused_at = rw sum refused;
          clones = first;
          listed = start;
          left = λ _. (freed.0, defaults, drop lesser ws, later, rw none rest);
        }

    part : (lesser < j) ⊎ (j ≤ lesser) → InPart
    part (inl lt) = late lt
    part (inr le) = early le

    pub clones_in_part : InPart
    clones_in_part = part (cases_lt lesser j)

  beyond : (length source < len_in old) ⊎ (len_in old ≤ length source)
      → drop (length source - lesser) (freed.0 ++ spare_in old) ≡ freed.0 ++ drop (length source - len_in old) (spare_in old)
  beyond (inl lt) =
      let none : length source - lesser ≡ 0 = omega arith in
      let no_more : length source - len_in old ≡ 0 = omega arith in
      rw (none, no_more) refl
  beyond (inr le) =
      let none : freed.0 ≡ [] = nil_from_length freed.0 (omega (arith, freed.1.0)) in
      let more : length source - lesser ≡ length source - len_in old = omega arith in
      rw (none, more) refl

  -- every clone was made: what lies behind them is by the slot rule
  pub all_cloned : (new : Slots T) → len_in new ≡ length source → spare_in new ≡ drop (length source) (all_slots cut) → SlotRule D old new
  all_cloned new reaches behind =
      let ends : cut.len + (length source - cut.len) ≡ length source = omega (arith, cut_len) in
      let behind_cut : drop (length source) (all_slots cut) ≡ drop (length source - lesser) (freed.0 ++ spare_in old) = rw (← freed.2, ← cut_len, drop-drop, ends) in
      rw reaches (freed.0, freed.1, behind ∙ behind_cut ∙ beyond (cases_lt (length source) (len_in old)))
