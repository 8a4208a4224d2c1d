-- The laws of `CanSplice` of a vector over slots.
use Rattle.std.proofs.Common.{◌≡◌, ℕ, ◌+◌, ◌-◌, ◌≤◌, length, refl, sym, ap, ◌∙◌, arith, length-append, take-append-drop}
use Rattle.tinyvec_slots.specs.Slots.{SlotRule}
use Rattle.tinyvec_slots.proofs.SlotsLemmas.{shortened}
use Rattle.tinyvec_array.specs.ArrayVec.{view_of, slots_of, SameLender, VacatesOf}
use Rattle.tinyvec_array.specs.View.{view, StaysInPlace}
use Rattle.tinyvec_array.specs.CutLaws.{KeptOf, CutOf}
use Rattle.tinyvec_array.specs.ViewLaws.{one_place, same_place, stays}
use Rattle.tinyvec_array.specs.declared.slots.Slots as Storage
use Rattle.tinyvec_array.specs.declared.array_vec.ArrayVec.{ArrayVec}

module _ {S T L : Type 0} (g : Storage.Ghosts S T L) where
  pub parts_of : (v : ArrayVec S L) → length (slots_of g v) ≡ length (view g v).items + length (view g v).spare
  parts_of v = ap length (sym (take-append-drop (g.count v.len) (g.slots v.slots))) ∙ length-append (view g v).items (view g v).spare

  pub kept_refl : (v : ArrayVec S L) → KeptOf g v v
  kept_refl v = (refl, (refl, refl))

  pub kept_then : (u v w : ArrayVec S L) → KeptOf g u v → KeptOf g v w → KeptOf g u w
  kept_then u v w h k = (k.0 ∙ h.0, (k.1.0 ∙ h.1.0, k.1.1 ∙ h.1.1))

  -- a write of the list leaves as many slots
  pub kept_count : (v w : ArrayVec S L) → KeptOf g v w → length (slots_of g w) ≡ length (slots_of g v)
  kept_count v w k = omega (arith, parts_of v, parts_of w, ap length k.1.0, k.1.1)

  kept_place : (v w : ArrayVec S L) → KeptOf g v w → (view g w).place ≡ (view g v).place
  kept_place v w k = one_place refl (kept_count v w k) k.0

  module _ (D : T → Type 0) where
    -- so do calls that vacate slots
    pub vacated_count : (old new : ArrayVec S L) (n : ℕ) → length (view g new).items + n ≡ length (view g old).items
        → VacatesOf g D n old new → length (slots_of g new) ≡ length (slots_of g old)
    vacated_count old new n shorter h =
        let behind = ap length h.2 ∙ length-append h.0 (view g old).spare in
        omega (arith, parts_of new, parts_of old, behind, h.1.0, shorter)

    pub cut_lender : (old new : ArrayVec S L) → CutOf g D old new → SameLender g old new
    cut_lender old new h = record {
      same_reference = h.0;
      slot_count = vacated_count old new (length (view g old).items - length (view g new).items) (omega (arith, h.1.bound)) h.1.spare;
    }

    pub cut_changes : (v w : ArrayVec S L) → CutOf g D v w → StaysInPlace D (view g v) (view g w)
    cut_changes v w h = stays g D v w (same_place g v w (cut_lender v w h)) (shortened D (view_of g v) (view_of g w) h.1)

    pub changed_around : (u v w x : ArrayVec S L) → KeptOf g u v → StaysInPlace D (view g v) (view g w) → KeptOf g w x → StaysInPlace D (view g u) (view g x)
    changed_around u v w x k h j =
        let first : SlotRule D (view_of g u) (view_of g w) = rw (sym k.1.0, sym k.1.1) (h.slot_rule) in
        stays g D u x (kept_place w x j ∙ h.place ∙ kept_place u v k) (rw (j.1.0, j.1.1) first)

    pub not_fewer : (v w : ArrayVec S L) → StaysInPlace D (view g v) (view g w) → length (slots_of g v) ≤ length (slots_of g w)
    not_fewer v w h = omega (arith, ap (λ p. p.capacity) h.place)
