-- Lemmas on the list and the spare slots of a vector.
use Rattle.std.proofs.Common.{◌≡◌, ℕ, ◌+◌, ◌-◌, ◌<◌, ◌≤◌, List, ◌++◌, length, take, drop, set, slice_range, refl, sym, ap, ◌∙◌, arith, rules, length-append, length-take, length-drop, take-append-drop}
use Rattle.std.proofs.Math.Seq.{take-set-lt}
use Rattle.std.proofs.lemmas.List.{same_lists, places}
use Rattle.std.specs.Borrow.{MutBor}
use Rattle.std.specs.List.{refill, length_refill}
use Rattle.std.specs.declared.ops.Bound.{Bound}
use Rattle.tinyvec_slots.specs.Filters.{Shortened}
use Rattle.tinyvec_slots.specs.Ranges.{IsRangeOf, items_before, items_within, items_after, range_start, range_end}
use Rattle.tinyvec_slots.proofs.Lists.{length-remove_range, length-slice_range, length-replaced}
use Rattle.tinyvec_slots.proofs.BorderLemmas.{list_to, spare_from, replaced_length, replaced_len, replaced_list, replaced_shorter, replaced_behind, replaced_longer}
use Rattle.tinyvec_slots.proofs.SlotsLemmas.{slots_used}
use Rattle.tinyvec_array.specs.SliceParts.{with_front, with_back, with_front-as_long}
use Rattle.tinyvec_array.proofs.PartLemmas.{with_back-as_long}
use Rattle.tinyvec_array.specs.ArrayVec.{view_of, slots_of, SameLender}
use Rattle.tinyvec_array.specs.View.{view, Becomes, StaysInPlace, ShortensInPlace}
use Rattle.tinyvec_array.specs.ViewLaws.{stays, becomes, same_place}
use Rattle.tinyvec_array.specs.SliceVec.{slice_items, slice_spare, slice_slots}
use Rattle.tinyvec_array.specs.Lends.{at_slots, with_items_of}
use Rattle.tinyvec_array.specs.CutLaws.{CutOf}
use Rattle.tinyvec_array.specs.SpliceLaws.{cut_changes}
pub use Rattle.tinyvec_array.specs.SpliceLaws.{parts_of}
use Rattle.tinyvec_array.specs.declared.slots.Slots as Storage
use Rattle.tinyvec_array.specs.declared.array_vec.ArrayVec.{ArrayVec}

-- what was written over the first n slots leaves the list as long as it was
front_len : {X : Type 0} (k : ℕ) (xs : List X) (n : ℕ) → n ≡ length (take k xs) → (ws : List X) → length (take k (with_front xs n ws)) ≡ n
front_len k xs n is ws =
    let written = length_refill n (take n xs) ws (omega (arith, is, length-take k xs, length-take n xs)) in
    omega (arith, is, written, length-take k (with_front xs n ws), length-take k xs, length-append (refill n (take n xs) ws) (drop n xs), length-drop n xs)

-- the items were written as a slice
module _ {S T L : Type 0} (g : Storage.Ghosts S T L) (v : ArrayVec S L) (ws : List T) where
  pub slots_of-written : length ws ≡ length (view g v).items → slots_of g (with_items_of g v ws) ≡ ws ++ (view g v).spare
  slots_of-written long =
      let n = length (view g v).items in
      cc (g.slots_written v.slots (with_front (g.slots v.slots) n ws), with_front-as_long (g.slots v.slots) ws n long, spare_from (g.count v.len) (g.slots v.slots) n refl)

-- the spare slots were written
module _ {S T L : Type 0} (g : Storage.Ghosts S T L) (v : ArrayVec S L) (ws : List T) where
  abbrev pub put_back : ArrayVec S L
  put_back = at_slots g v (with_back (slots_of g v) (length (view g v).items) ws)

  pub slots_of-back : length ws ≡ length (view g v).spare → slots_of g put_back ≡ (view g v).items ++ ws
  slots_of-back long =
      let behind = spare_from (g.count v.len) (g.slots v.slots) (length (view g v).items) refl in
      let written = with_back-as_long (slots_of g v) ws (length (view g v).items) (long ∙ sym (ap length behind)) in
      cc (g.slots_written v.slots (with_back (slots_of g v) (length (view g v).items) ws), written, list_to (g.count v.len) (slots_of g v) (length (view g v).items) refl)

  -- the list is as it was, also where the length is more than there are slots
  pub back_parts : length ws ≡ length (view g v).spare → ((view g put_back).items ≡ (view g v).items) × ((view g put_back).spare ≡ ws)
  back_parts long =
      let k = g.count v.len in
      let all = slots_of-back long in (
        ap (take k) all ∙ same_lists _ _ (search (rules, places, long)) (λ i d h. grind (arith, places, long)),
        ap (drop k) all ∙ same_lists _ _ (search (rules, places, long)) (λ i d h. grind (arith, places, long)),
      )

  pub back_lender : length ws ≡ length (view g v).spare → SameLender g v put_back
  back_lender long = record {
    same_reference = g.name_kept v.slots (with_back (slots_of g v) (length (view g v).items) ws);
    slot_count = ap length (slots_of-back long) ∙ length-append (view g v).items ws ∙ omega (arith, long, parts_of g v);
  }

-- what is read of a vector whose slots were written
pub view_of-at : {S T L : Type 0} (g : Storage.Ghosts S T L) (v : ArrayVec S L) (xs : List T)
    → view_of g (at_slots g v xs) ≡ record { slots = xs; len = (view_of g v).len }
view_of-at g v xs i = record { slots = g.slots_written v.slots xs i; len = g.count v.len }

-- the slots are the list and the spare slots
pub slots-parts : {S T L : Type 0} (g : Storage.Ghosts S T L) (v : ArrayVec S L) → slots_of g v ≡ (view g v).items ++ (view g v).spare
slots-parts g v = sym (take-append-drop (g.count v.len) (g.slots v.slots))

-- a call, or two one after the other, keeps to the same slots
module _ {S T L : Type 0} (g : Storage.Ghosts S T L) where
  pub same_lender : (v : ArrayVec S L) → SameLender g v v
  same_lender v = record { same_reference = refl; slot_count = refl }

  pub SameLender-then : (u v w : ArrayVec S L) → SameLender g u v → SameLender g v w → SameLender g u w
  SameLender-then u v w first second = record {
    same_reference = second.same_reference ∙ first.same_reference;
    slot_count = second.slot_count ∙ first.slot_count;
  }

-- a call of `tinyvec_slots` that only removes items
pub shortened : {S T L : Type 0} (g : Storage.Ghosts S T L) (D : T → Type 0) (old new : ArrayVec S L)
    → Shortened (λ v. (view g v).items) (λ v. length (slots_of g v)) (CutOf g D) old new → ShortensInPlace D (view g old) (view g new)
shortened g D old new h = record { bound = h.bound; frame = cut_changes g D old new h.cut }

-- a range that is taken out of a list leaves so many fewer items
pub fewer : {T : Type 0} (xs : List T) (start end : Bound ℕ) → IsRangeOf xs start end → length xs ≡ length (items_before xs start ++ items_after xs end) + length (items_within xs start end)
fewer xs start end within =
    let i = range_start start in
    let j = range_end end (length xs) in
    omega (arith, length-remove_range xs i j within.0 within.1, length-slice_range xs i j within.0 within.1, within.0, within.1)

-- a call that only adds items
pub grown : {S T L : Type 0} (g : Storage.Ghosts S T L) (D : T → Type 0) (old new : ArrayVec S L) (xs : List T) → (view g new).items ≡ (view g old).items ++ xs
    → (view g new).spare ≡ drop (length (view g new).items - length (view g old).items) (view g old).spare → (view g new).place ≡ (view g old).place → StaysInPlace D (view g old) (view g new)
grown g D old new xs listed behind place =
    let longer = ap length listed ∙ length-append (view g old).items xs in
    stays g D old new place (slots_used D (view_of g old) (view_of g new) (length (view g new).items - length (view g old).items) (omega (arith, longer)) behind)

-- one item was written
module _ {S T L : Type 0} (g : Storage.Ghosts S T L) (v : ArrayVec S L) (i : ℕ) (x : T) (lt : i < length (view g v).items) where
  pub items_of-set : (view g (at_slots g v (set (g.slots v.slots) i x))).items ≡ set (view g v).items i x
  items_of-set = ap (take (g.count v.len)) (g.slots_written v.slots (set (g.slots v.slots) i x)) ∙ take-set-lt (g.count v.len) (g.slots v.slots) i x (search (rules, lt, places))

-- what the owner of a slice sees of a vector over it
pub owner_sees : {T : Type 0} (v : ArrayVec (MutBor (List T)) ℕ) (xs ys : List T) → slice_items v ≡ xs → slice_spare v ≡ ys → slice_slots v ≡ xs ++ ys
owner_sees v xs ys listed behind = cc (take-append-drop v.len v.slots.now, listed, behind)

-- the items from i up to j were replaced by `new` in the slots `ws`
module _ {S T L : Type 0} (g : Storage.Ghosts S T L) (D : T → Type 0) (v : ArrayVec S L) (n : ℕ) (is : n ≡ length (view g v).items) (i j : ℕ) (new ws : List T)
    (le : i ≤ j) (inside : j ≤ n) (fits : n - (j - i) + length new ≤ length (slots_of g v))
    (put : ws ≡ take i (slots_of g v) ++ new ++ slice_range (slots_of g v) j n ++ drop (i + length new + (n - j)) (slots_of g v)) where
  abbrev k : ℕ
  k = g.count v.len

  abbrev m : ℕ
  m = n - (j - i) + length new

  abbrev replaced : List T
  replaced = take i (view g v).items ++ new ++ drop j (view g v).items

  slots : slots_of g (at_slots g v ws) ≡ ws
  slots = g.slots_written v.slots ws

  count : length (slots_of g (at_slots g v ws)) ≡ length (slots_of g v)
  count = ap length slots ∙ replaced_length k (slots_of g v) n is i j new ws m le inside refl fits put

  long : length replaced ≡ m
  long = length-replaced i j new (view g v).items le (omega (arith, is, inside)) ∙ ap (λ l. l - (j - i) + length new) (sym is)

  place : (view g (at_slots g v ws)).place ≡ (view g v).place
  place = same_place g v (at_slots g v ws) (record { same_reference = g.name_kept v.slots ws; slot_count = count })

  -- and the list was cut
  pub replaced_cut : (w : ArrayVec S L) → m < n → Becomes D (view g (at_slots g v ws)) (view g w) (take m (view g (at_slots g v ws)).items)
      → Becomes D (view g v) (view g w) replaced
  replaced_cut w few cut =
      let was = ap (λ l. length (take k l)) slots ∙ replaced_len k (slots_of g v) n is i j new ws m le inside refl fits put ∙ is in
      let behind = ap (drop k) slots ∙ replaced_behind k (slots_of g v) n is i j new ws m le inside refl fits put (omega (arith, few)) in
      let rule = cut.slot_rule in
      record {
        items = cut.items ∙ ap (λ l. take m (take k l)) slots ∙ replaced_shorter k (slots_of g v) n is i j new ws m le inside refl fits put (omega (arith, few));
        place = cut.place ∙ place;
        slot_rule = (rule.0, (rule.1.0 ∙ ap (λ l. l - length (view g w).items) was, rule.1.1), rule.2 ∙ (λ e. rule.0 ++ drop (length (view g w).items - was e) (behind e)));
        fits = cut.fits;
      }

  -- or gained spare slots
  pub replaced_grown : (len : L) → g.count len ≡ m → n ≤ m → Becomes D (view g v) (view g (record { slots = g.with_slots v.slots ws; len = len })) replaced
  replaced_grown len at more =
      let w : ArrayVec S L = record { slots = g.with_slots v.slots ws; len = len } in
      let items = (λ e. take (at e) (slots e)) ∙ replaced_list k (slots_of g v) n is i j new ws m le inside refl fits put in
      let behind = (λ e. drop (at e) (slots e)) ∙ replaced_longer k (slots_of g v) n is i j new ws m le inside refl fits put more in
      becomes g D v w place (slots_used D (view_of g v) (view_of g w) (m - n) (omega (arith, ap length items, long, is, more)) behind) replaced items
