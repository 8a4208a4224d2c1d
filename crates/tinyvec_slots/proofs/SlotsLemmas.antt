-- Lemmas on the list and the spare slots.
use Rattle.std.proofs.Common.{◌≡◌, ℕ, ◌+◌, ◌-◌, List, [], ◌++◌, drop, replicate, sym, ap, ◌∙◌, ◌<◌, slice_set, drop-set-lt, arith, rules, take-append-drop}
use Rattle.std.proofs.Math.Seq.{take-set-lt}
use Rattle.std.proofs.lemmas.List.Elements.{All-nil}
use Rattle.std.proofs.lemmas.List.{same_lists, places, get_or-replicate, length-replicate}
use Rattle.tinyvec_slots.specs.Slots.{Slots, AreDefaults, Vacates, SlotRule, Cuts, SameSpare, len_in, all_slots, items_in, spare_in}

-- the slots are the list and what stands behind it
pub slots_are : {T : Type 0} (v : Slots T) → all_slots v ≡ items_in v ++ spare_in v
slots_are v = sym (take-append-drop v.len v.slots)

-- v with its slot i set to x
abbrev pub with_slot : {T : Type 0} → Slots T → ℕ → T → Slots T
with_slot v i x = record v { slots = slice_set v.slots i x }

-- a write of one slot of the list writes that item
pub items-with_slot : {T : Type 0} (v : Slots T) (i : ℕ) (x : T) → i < len_in v → items_in (with_slot v i x) ≡ slice_set (items_in v) i x
items-with_slot v i x h = take-set-lt v.len v.slots i x (search (rules, h, places))

-- and leaves the others alone
pub spare-with_slot : {T : Type 0} (v : Slots T) (i : ℕ) (x : T) → i < len_in v → spare_in (with_slot v i x) ≡ spare_in v
spare-with_slot v i x h = drop-set-lt v.len v.slots i x (search (rules, h, places))

-- the slot rule of a call that made the list longer, shorter, or neither
module _ {T : Type 0} (D : T → Type 0) (old new : Slots T) where
  pub slots_used : (k : ℕ) → len_in new ≡ len_in old + k → spare_in new ≡ drop k (spare_in old) → SlotRule D old new
  slots_used k len behind =
      let none : len_in old - len_in new ≡ 0 = omega arith in
      let more : len_in new - len_in old ≡ k = omega arith in
      ([], (sym none, All-nil D), behind ∙ ap (λ n. drop n (spare_in old)) (sym more))

  pub slots_freed : (k : ℕ) → len_in old ≡ len_in new + k → Vacates D k old new → SlotRule D old new
  slots_freed k len h =
      let fewer : len_in old - len_in new ≡ k = omega arith in
      let none : len_in new - len_in old ≡ 0 = omega arith in
      (h.0, (h.1.0 ∙ sym fewer, h.1.1), h.2 ∙ ap (λ n. h.0 ++ drop n (spare_in old)) (sym none))

  pub shortened : Cuts D old new → SlotRule D old new
  shortened h = slots_freed (len_in old - len_in new) (omega (arith, h.bound)) h.spare

-- a list that was written and then cut
pub written_shortened : {T : Type 0} (D : T → Type 0) (u v w : Slots T) → SameSpare u v → Cuts D v w → Cuts D u w
written_shortened D u v w k h = record { bound = rw (sym k.1) h.bound; spare = rw (sym k.0, sym k.1) h.spare }

-- where the item's `Default` answers one value only
module _ {T : Type 0} (D : T → Type 0) (c : T) (only : (x : T) → D x → x ≡ c) where
  pub defaults_are : (n : ℕ) (xs : List T) → AreDefaults D n xs → xs ≡ replicate n c
  defaults_are n xs h =
      same_lists xs (replicate n c) (h.0 ∙ sym (length-replicate n c))
      (λ k d lt. only _ (h.1 k d lt) ∙ sym (get_or-replicate n k c d (rw (← h.0) lt)))

  pub freed : (n : ℕ) (old new : Slots T) → Vacates D n old new → spare_in new ≡ replicate n c ++ spare_in old
  freed n old new h = h.2 ∙ ap (λ ds. ds ++ spare_in old) (defaults_are n h.0 h.1)

-- the vacated slots of numbers hold zeros
pub zeros_are : {T : Type 0} (zero : T) (n : ℕ) (xs : List T) → AreDefaults (λ x. x ≡ zero) n xs → xs ≡ replicate n zero
zeros_are zero = defaults_are (λ x. x ≡ zero) zero (λ x h. h)
