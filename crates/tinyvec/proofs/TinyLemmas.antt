-- Lemmas on the list, the spare slots and the place.
use Rattle.std.specs.Prelude.{IsTrue}
use Rattle.std.proofs.Common.{Vec, Global, vec_capacity, ◌≡◌, ℕ, ◌+◌, ◌-◌, ◌<◌, ◌≤◌, replicate, [], length, drop, length-take, ◌++◌, refl, sym, ap, subst, ◌∙◌, length-set, length-drop, slice_set, All, arith}
use Rattle.std.specs.Prelude.{OnOk, OnErr, IsErr, Result, Ok, Err}
use Rattle.std.proofs.lemmas.Result.{IfOk-from_err}
use Rattle.std.proofs.lemmas.List.{drop-drop}
use Rattle.std.proofs.lemmas.List.Elements.{All-drop}
use Rattle.tinyvec_slots.specs.Slots.{Slots, items_in, spare_in}
use Rattle.tinyvec_slots.proofs.SlotsLemmas.{defaults_are, items-with_slot, spare-with_slot}
use Rattle.tinyvec.specs.View.{in_array, on_heap, TinyView, SpareRule, IsNew, place_pushed}
use Rattle.tinyvec.specs.Room.{GrowsByPushes, IsCollected}
use Rattle.tinyvec_array.specs.ArrayVec.{view_of, slots_of}
use Rattle.tinyvec_array.specs.View.{view as slots_view}
use Rattle.tinyvec_array.specs.ViewLaws.{rule_at, rule_by, used_by}
use Rattle.tinyvec_array.proofs.RuleLemmas.{rule_used}
use Rattle.tinyvec_array.proofs.ViewLemmas.{view_of-at}
use Rattle.tinyvec_array.specs.declared.slots.Slots as Storage
use Rattle.tinyvec.specs.TinyVec.{view}
use Rattle.tinyvec.specs.Lends.{tiny_with_item}
use Rattle.tinyvec.specs.declared.tiny_vec.TinyVec.{TinyVec}
use Rattle.tinyvec.specs.declared.tiny_vec.TinyVec.TheVariants.{Inline, Heap}
pub use Rattle.tinyvec.specs.FrameLaws.{FrameOf, SameFrame-refl, SameFrame-then, tiny_items-with, tiny_framed-with, tiny_slots_framed, tiny_slots_then_framed}

-- what is seen of an array, and of a list on the heap
abbrev pub array_view : {T : Type 0} → Slots T → TinyView T
array_view v = record { items = items_in v; spare = spare_in v; place = in_array (length v.slots) }

abbrev pub heap_view : {T : Type 0} → Vec T Global → TinyView T
heap_view v = record { items = v.items; spare = []; place = on_heap (vec_capacity v) }

module _ {A T L : Type 0} (g : Storage.Ghosts A T L) where
  -- a write of one item writes that item
  pub tiny_items-with_item : (v : TinyVec A T L) (i : ℕ) (x : T) → i < length (view g v).items → (view g (tiny_with_item g v i x)).items ≡ slice_set (view g v).items i x
  tiny_items-with_item (Inline v alloc) i x h = ap items_in (view_of-at g v (slice_set (slots_of g v) i x)) ∙ items-with_slot (view_of g v) i x h
  tiny_items-with_item (Heap v) i x h = refl

  -- and leaves spare slots, place and room
  pub tiny_framed-with_item : (v : TinyVec A T L) (i : ℕ) (x : T) → i < length (view g v).items → FrameOf g v (tiny_with_item g v i x)
  tiny_framed-with_item (Inline v alloc) i x h = record {
    len = ap length (tiny_items-with_item (Inline v alloc) i x h) ∙ length-set (slots_view g v).items i x;
    spare = ap spare_in (view_of-at g v (slice_set (slots_of g v) i x)) ∙ spare-with_slot (view_of g v) i x h;
    place = ap (λ u. in_array (length u.slots)) (view_of-at g v (slice_set (slots_of g v) i x)) ∙ ap in_array (length-set (slots_of g v) i x);
  }
  tiny_framed-with_item (Heap v) i x h = record { len = length-set v.items i x; spare = refl; place = refl }

-- a list that stays inline and got no shorter used up as many spare slots
abbrev pub UsesSpare : {T : Type 0} → TinyView T → TinyView T → Type 0
UsesSpare old new = IsTrue old.place.inline → IsTrue new.place.inline → length old.items ≤ length new.items → new.spare ≡ drop (length new.items - length old.items) old.spare

-- those that a list used up that got longer by k
pub used_up : {T : Type 0} (old new : TinyView T) (k : ℕ) → length new.items ≡ length old.items + k → (IsTrue new.place.inline → new.spare ≡ drop k old.spare) → UsesSpare old new
used_up old new k len spare i j le = spare j ∙ ap (λ n. drop n old.spare) (omega (arith, len))

module _ {T : Type 0} (D : T → Type 0) where
  -- a list that used up k spare slots
  pub slots_taken : (old new : TinyView T) (k : ℕ) → length new.items ≡ length old.items + k → new.spare ≡ drop k old.spare → SpareRule D old new
  slots_taken old new k len behind = rule_by D old new (λ _ _. rule_used D _ _ _ _ k len behind)

  -- and what a list that got no shorter used up
  pub taken : (old new : TinyView T) → length old.items ≤ length new.items → SpareRule D old new → IsTrue old.place.inline → IsTrue new.place.inline
      → new.spare ≡ drop (length new.items - length old.items) old.spare
  taken old new le rule i j =
      used_by D _ _ _ _ (length new.items - length old.items) (omega (arith, le)) (rule_at D old new rule i j)

  -- the slot rule of a list that got no shorter, and used up as many spare slots
  pub used_rule : (old new : TinyView T) → length old.items ≤ length new.items → UsesSpare old new → SpareRule D old new
  used_rule old new le spare = rule_by D old new (λ i j. rule_used D _ _ _ _ (length new.items - length old.items) (omega (arith, le)) (spare i j le))

  -- what a new list collects item by item
  pub collected : (slots : ℕ) (old new : TinyView T) → IsNew D slots old → GrowsByPushes D old new → IsCollected D slots new.items new
  collected slots old new made grows =
      let zero : length old.items ≡ 0 = ap length made.items in
      let n = length new.items - length old.items in record {
        items = refl;
        place = grows.place ∙ ap (place_pushed (length new.items)) made.place;
        spare = λ i.
            let is = taken old new (omega (arith, zero)) grows.slot_rule (ap (λ p. p.inline) made.place) i in
            (ap length is ∙ length-drop n old.spare ∙ omega (arith, made.spare.0, zero), subst (All D) (sym is) (All-drop D n old.spare made.spare.1));
        fits = grows.fits;
      }

  -- the slot rule of a call that first made room
  pub slots_after_room : (old mid new : TinyView T) → (IsTrue mid.place.inline → mid ≡ old) → new.place ≡ mid.place
      → SpareRule D mid new → SpareRule D old new
  slots_after_room old mid new stays place rule = rule_by D old new (λ i j. rule_at D old new (subst (λ v. SpareRule D v new) (stays (sym (ap (λ p. p.inline) place) ∙ j)) rule) i j)

  -- the slot rule over two calls, one after the other, that make the list longer
  pub tiny_slots_then : (a b c : TinyView T) → (IsTrue c.place.inline → IsTrue b.place.inline) → length a.items ≤ length b.items → length b.items ≤ length c.items
      → SpareRule D a b → SpareRule D b c → SpareRule D a c
  tiny_slots_then a b c place le more g h = rule_by D a c (λ i k.
      let both : length b.items - length a.items + (length c.items - length b.items) ≡ length c.items - length a.items = omega arith in
      rule_used D _ _ _ _ (length c.items - length a.items) (omega arith) (rw (taken b c more h (place k) k, taken a b le g i (place k), drop-drop, both) refl))

  module _ (c : T) (only : (x : T) → D x → x ≡ c) where
    -- the slot rule where the item's `Default` answers one value only
    pub tiny_slots_only : (old new : TinyView T) → IsTrue old.place.inline → IsTrue new.place.inline → SpareRule D old new
        → new.spare ≡ replicate (length old.items - length new.items) c ++ drop (length new.items - length old.items) old.spare
    tiny_slots_only old new i j rule =
        let h = rule_at D old new rule i j in
        h.2 ∙ ap (λ ds. ds ++ drop (length new.items - length old.items) old.spare) (defaults_are D c only (length old.items - length new.items) h.0 h.1)

-- two facts of a call that succeeded
pub on_ok_two : {T E P Q R : Type 0} (r : Result T E) → OnOk r P → OnOk r Q → (P → Q → R) → OnOk r R
on_ok_two (Ok x) p q f = f p q
on_ok_two (Err e) p q f = tt

-- and of one that was refused
pub on_err_two : {T E P Q R : Type 0} (r : Result T E) → OnErr r P → OnErr r Q → (P → Q → R) → OnErr r R
on_err_two (Ok x) p q f = tt
on_err_two (Err e) p q f = f p q

-- an error says nothing of success
pub never_ok : {T E : Type 0} (P : Type 0) (r : Result T E) → IsErr r → OnOk r P
never_ok P r = IfOk-from_err r (λ _. P)

module _ {A T L : Type 0} (g : Storage.Ghosts A T L) where
  -- a list fits where it is
  pub tiny_fits : (v : TinyVec A T L) → length (view g v).items ≤ (view g v).place.capacity
  tiny_fits (Inline v alloc) = omega (arith, length-take (g.count v.len) (g.slots v.slots))
  tiny_fits (Heap v) = omega (arith, v.ok.0, v.ok.1)
