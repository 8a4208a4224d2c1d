-- Lemmas on clones that were appended: to an array or on the heap, where there was room or it was made first.
use Rattle.std.specs.Prelude.{IsTrue}
use Rattle.std.proofs.Common.{◌≡◌, ◌∙◌, ℕ, ◌+◌, ◌<◌, ◌≤◌, List, [], ◌++◌, append-nil, length, length-take, drop, replicate, Vec, Global, Result, Ok, inl, inr, refl, sym, ap, subst, arith}
use Rattle.std.proofs.Math.Seq.{drop-nil}
use Rattle.std.specs.Prelude.{All, IsErr, IsOk, OnOk, OnErr}
use Rattle.std.specs.List.{AllZip, AppendsClones}
use Rattle.std.specs.declared.clone.Clone as Clone
use Rattle.std.proofs.lemmas.Bool.{false≢true}
use Rattle.std.proofs.lemmas.List.{length-replicate, get_or-replicate, take-replicate}
use Rattle.std.proofs.lemmas.List.Elements.{same_from_all_zip}
use Rattle.std.proofs.lemmas.Result.{on_ok_weaker, on_err_weaker}
use Rattle.tinyvec_slots.specs.Slots.{Slots}
use Rattle.tinyvec_slots.specs.Clones.{ClonesOver, AddsClones, AppendsAllOrNone}
use Rattle.tinyvec_slots.proofs.CloneLemmas.{on_err}
use Rattle.tinyvec.specs.View.{TinyView, BecomesIn, Reserved, place_for, in_array, on_heap}
use Rattle.tinyvec.specs.Refused.{RefusedFor, ClonesBehind, ClonesInRoom, ClonesRefused}
use Rattle.tinyvec.specs.OnHeap.{PushesClones}
use Rattle.tinyvec.proofs.TinyLemmas.{array_view, heap_view, used_rule, used_up, on_ok_two, never_ok}
use Rattle.tinyvec.proofs.PlaceLemmas.{place_same}
use Rattle.tinyvec.proofs.CloneLemmas.{appends_len, chosen, none_refused}
use Rattle.tinyvec.proofs.RefusedLemmas.{spare_kept}

pub all_or_none : {T X E : Type 0} (C : T → T → Type 0) (xs : List T) (r : Result X E) (old new : List T) → OnOk r (AppendsClones C old new xs) → OnErr r (new ≡ old)
    → AppendsAllOrNone C xs r old new
all_or_none C xs r old new made kept = record {
  items = made;
  len = chosen r _ _ (on_ok_weaker r (appends_len C old new xs) made) (on_err_weaker r (ap length) kept);
  if_clones_equal = λ rule. chosen r _ _ (on_ok_weaker r (λ h. h.1 ∙ ap (λ l. old ++ l) (same_from_all_zip C xs h.0 h.2 rule)) made) kept;
  kept = kept;
}

-- nothing was to be appended
pub none_added : {T X E : Type 0} (C : T → T → Type 0) (xs old new : List T) (x : X) → xs ≡ [] → new ≡ old → AppendsAllOrNone {E = E} C xs (Ok x) old new
none_added C xs old new x none same =
    all_or_none C xs (Ok x) old new ([], same ∙ sym (append-nil old), subst (λ l. AllZip C l []) (sym none) tt) tt

module _ {T X E : Type 0} (g : Clone.Ghosts T) (xs : List T) (r : Result X E) where
  -- an array that got them
  pub inline_clones : (v w : Slots T) → AddsClones g xs r v w → length w.slots ≡ length v.slots → ClonesInRoom g xs (array_view v) (array_view w) r
  inline_clones v w made same = record {
    items = made.items;
    spare = made.spare;
    place = ap in_array same;
    fits = omega (arith, length-take w.len w.slots);
    kept = made.kept;
    refused = on_err_weaker r (λ h. (h.0, h.1, λ _. h.2)) made.refused;
    succeeds = made.succeeds;
  }

  -- a list on the heap that got them
  pub heap_clones : (v w : Vec T Global) → PushesClones g xs r v w → ClonesInRoom g xs (heap_view v) (heap_view w) r
  heap_clones v w made = record {
    items = made.items;
    spare = on_ok_weaker r (λ _. sym (drop-nil (length xs))) made.items;
    place = ap on_heap made.capacity;
    fits = omega (arith, w.ok.0, w.ok.1);
    kept = made.kept;
    refused = on_err_weaker r (λ h. (h.0, h.1, λ i. absurd (false≢true i))) made.refused;
    succeeds = none_refused g.is_infallible xs r made.refused;
  }

module _ {T X E : Type 0} (D : T → Type 0) (g : Clone.Ghosts T) (xs : List T) (r : Result X E) where
  -- what `extend_from_slice` and `extend_from_within` ensure
  pub record Extended (old new : TinyView T) : Type 0 where
    pub clones : AppendsAllOrNone g.is_clone xs r old.items new.items
    pub ok : OnOk r (BecomesIn D old new new.items (place_for Reserved (length old.items + length xs) old.place))
    pub succeeds : length old.items + length xs ≤ old.place.capacity → All g.is_infallible xs → IsOk r
    pub refused : OnErr r (ClonesRefused g xs old new)

  module _ (old new : TinyView T) where
    -- room for them was granted, and then they came
    extended : (mid : TinyView T) → mid.items ≡ old.items → (IsTrue mid.place.inline → mid ≡ old) → new.place ≡ place_for Reserved (length old.items + length xs) old.place
        → ClonesInRoom g xs mid new r → Extended old new
    extended mid items stays place made =
        let kept = spare_kept old mid new stays made.place in record {
          clones = all_or_none g.is_clone xs r old.items new.items
              (on_ok_weaker r (subst (λ l. AppendsClones g.is_clone l new.items xs) items) made.items) (on_err_weaker r (λ h. h ∙ items) made.kept);
          ok = on_ok_two r made.items made.spare (λ h spare.
              let long : length new.items ≡ length old.items + length xs = appends_len g.is_clone mid.items new.items xs h ∙ ap (λ l. length l + length xs) items in record {
                items = refl;
                place = place;
                slot_rule = used_rule D old new (omega (arith, long)) (used_up old new (length xs) long (λ i. spare ∙ ap (drop (length xs)) (kept i)));
                fits = made.fits;
              });
          succeeds = λ _. made.succeeds;
          refused = on_err_weaker r (λ h. inr (place, (h.0, h.1, λ i. rw (kept i) at h.2 i))) made.refused;
        }

    -- there was room
    pub extended_in_room : ClonesInRoom g xs old new r → length old.items + length xs ≤ old.place.capacity → Extended old new
    extended_in_room made room =
        extended old refl (λ _. refl) (made.place ∙ sym (place_same Reserved (length old.items + length xs) old.place room)) made

    -- room for n more was made first
    pub extended_grown : (n : ℕ) (mid : TinyView T) → n ≡ length xs → mid.items ≡ old.items → (IsTrue mid.place.inline → mid ≡ old)
        → mid.place ≡ place_for Reserved (length old.items + n) old.place → ClonesInRoom g xs mid new r → Extended old new
    extended_grown n mid many items stays grown made =
        extended mid items stays (made.place ∙ (rw many at grown)) made

  -- room for them was refused
  pub extended_refused : (old new : TinyView T) (n : ℕ) → n ≡ length xs → IsErr r → old.place.capacity < length old.items + n → new ≡ old → Extended old new
  extended_refused old new n many err less same = record {
    clones = all_or_none g.is_clone xs r old.items new.items (never_ok _ r err) (on_err r (ap (λ v. v.items) same));
    ok = never_ok _ r err;
    succeeds = λ fits _. absurd (omega (arith, fits, many, less));
    refused = on_err r (inl (omega (arith, less, many), same));
  }

-- the same of what a refusal leaves: it names the value that has no clone
pub copies_refused : {T : Type 0} (g : Clone.Ghosts T) (n need : ℕ) (x : T) (old new : TinyView T) → length old.items + n ≡ need
    → ClonesRefused g (replicate n x) old new
    → RefusedFor need ((j : ℕ) × (j < n) × ¬ (g.is_infallible x) × ClonesBehind g.is_clone (replicate j x) j old new) old new
copies_refused g n need x old new is h =
    let all : length old.items + length (replicate n x) ≡ need = omega (arith, is, length-replicate n x) in
    elim h [
      | inl none ↦ inl (omega (arith, all, none.0), none.1)
      | inr some ↦
          let at = some.1 in
          let lt : at.0 < n = omega (arith, at.1.0, length-replicate n x) in
          let refused : ¬ (g.is_infallible x) = λ sure. at.1.1 x (subst g.is_infallible (sym (get_or-replicate n at.0 x x lt)) sure) in
          inr (rw all at some.0, (at.0, lt, refused, λ i. subst (λ l. ClonesOver g.is_clone l at.0 old.spare new.spare) (take-replicate at.0 n x (omega (arith, lt))) (at.2 i)))
    ]
