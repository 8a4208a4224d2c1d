-- The laws of `CanCut` of a vector over slots.
use Rattle.std.proofs.Common.{◌≡◌, ℕ, List, ◌++◌, length, take, drop, refl, sym, ap, ◌∙◌, arith, rules}
use Rattle.std.proofs.lemmas.List.{same_lists, places}
use Rattle.tinyvec_slots.specs.Slots.{SameSpare, Cuts}
use Rattle.tinyvec_slots.proofs.SlotsLemmas.{written_shortened}
use Rattle.tinyvec_array.specs.SliceParts.{with_front, with_front-as_long}
use Rattle.tinyvec_array.specs.ArrayVec.{view_of, name_of}
use Rattle.tinyvec_array.specs.View.{view}
use Rattle.tinyvec_array.specs.Lends.{with_items_of}
use Rattle.tinyvec_array.specs.declared.slots.Slots as Storage
use Rattle.tinyvec_array.specs.declared.array_vec.ArrayVec.{ArrayVec}

-- A list of n items was written as a slice, which keeps its length. k is the vector's `len`, which may be more than there are
-- slots: then all of them hold the list.
module _ {X : Type 0} (k : ℕ) (xs : List X) (n : ℕ) (is : n ≡ length (take k xs)) (ws : List X) (long : length ws ≡ n) where
  list_written : take k (ws ++ drop n xs) ≡ ws
  list_written = same_lists _ _ (search (rules, places, is, long)) (λ i d h. grind (arith, places, is, long))

  spare_written : drop k (ws ++ drop n xs) ≡ drop k xs
  spare_written = same_lists _ _ (search (rules, places, is, long)) (λ i d h. grind (arith, places, is, long))

module _ {S T L : Type 0} (g : Storage.Ghosts S T L) where
  -- the same slots are lent, and a write of the list left the spare slots as they were
  abbrev pub KeptOf : ArrayVec S L → ArrayVec S L → Type 0
  KeptOf old new = (name_of g new ≡ name_of g old) × SameSpare (view_of g old) (view_of g new)

  -- the same slots are lent, and the list lost items, by the slot rule
  abbrev pub CutOf : (T → Type 0) → ArrayVec S L → ArrayVec S L → Type 0
  CutOf D old new = (name_of g new ≡ name_of g old) × Cuts D (view_of g old) (view_of g new)

  pub written_of : (v : ArrayVec S L) (ws : List T) → length ws ≡ length (view g v).items
      → ((view g (with_items_of g v ws)).items ≡ ws) × KeptOf v (with_items_of g v ws)
  written_of v ws long =
      let slots = with_front (g.slots v.slots) (length (view g v).items) ws in
      let are = g.slots_written v.slots slots ∙ sym (with_front-as_long (g.slots v.slots) ws (length (view g v).items) long) in
      let list = ap (take (g.count v.len)) are ∙ list_written (g.count v.len) (g.slots v.slots) (length (view g v).items) refl ws long in
      let behind = ap (drop (g.count v.len)) are ∙ spare_written (g.count v.len) (g.slots v.slots) (length (view g v).items) refl ws long in
      (list, (g.name_kept v.slots slots, (behind, ap length list ∙ long)))

  pub kept_cut_of : (D : T → Type 0) (u v w : ArrayVec S L) → KeptOf u v → CutOf D v w → CutOf D u w
  kept_cut_of D u v w k h = (h.0 ∙ k.0, written_shortened D (view_of g u) (view_of g v) (view_of g w) k.1 h.1)
