-- Lemmas on where a list is once there is room for it.
use Rattle.std.specs.Prelude.{IsTrue}
use Rattle.std.proofs.Common.{le_refl, ◌≡◌, inl, inr, ℕ, zero, suc, ◌+◌, ◌*◌, ◌<◌, ◌≤◌, max, false, Result, Ok, Err, List, length, refl, sym, ap, ◌∙◌, arith}
use Rattle.std.specs.Prelude.{◌↔◌, OnOk, OnErr, IfErr, Bool, true, if◌then◌else◌}
use Rattle.std.specs.Result.{is_err}
use Rattle.std.proofs.lemmas.Bool.{false≢true, cases_lt}
use Rattle.tinyvec.specs.View.{Place, on_heap, in_array, Growth, Doubled, Reserved, takes_need, place_for, place_pushed, heap_for, TinyView, SameFrame, Becomes, StaysInPlace, BecomesIn, PlaceOf, View}
use Rattle.tinyvec.specs.Room.{GrowsByPushes, IsCollected}
pub use Rattle.tinyvec.specs.PlaceLaws.{place_same, place_grown, pushed_no_less, pushed_same}
use Rattle.tinyvec.proofs.TinyLemmas.{slots_after_room, tiny_slots_then, tiny_slots_then_framed}

-- one of the two is no less than the need
least : (b : Bool) (need room : ℕ) → need ≤ (if b then need else max (2 * room) need)
least true need room = omega arith
least false need room = omega arith

-- the place has that room
pub place_enough : (how : Growth) (need : ℕ) (p : Place) → need ≤ (place_for how need p).capacity
place_enough how need p = elim (cases_lt p.capacity need) [
  | inl more ↦ rw (place_grown how need p more) (least (takes_need how p) need p.capacity)
  | inr fits ↦ rw (place_same how need p fits) fits
]

-- only a list in the array is there afterwards
pub was_inline : (how : Growth) (need : ℕ) (p : Place) → IsTrue (place_for how need p).inline → IsTrue p.inline × (need ≤ p.capacity)
was_inline how need p i = elim (cases_lt p.capacity need) [
  | inl more ↦ absurd (false≢true (sym (ap (λ q. q.inline) (place_grown how need p more)) ∙ i))
  | inr fits ↦ (sym (ap (λ q. q.inline) (place_same how need p fits)) ∙ i, fits)
]

-- as does one that has grown to n items, for as many more as fit
pub pushed_further : (n m : ℕ) (p : Place) → n ≤ m → m ≤ (place_pushed n p).capacity → place_pushed m p ≡ place_pushed n p
pushed_further n zero p le fits = let is : zero ≡ n = omega (arith, le) in ap (λ k. place_pushed k p) is
pushed_further n (suc m) p le fits = elim (cases_lt m n) [
  | inl last ↦ let is : suc m ≡ n = omega (arith, last, le) in ap (λ k. place_pushed k p) is
  | inr more ↦
      let before = pushed_further n m p more (omega (arith, fits)) in
      ap (place_for Doubled (suc m)) before ∙ place_same Doubled (suc m) (place_pushed n p) fits
]

-- one more
pub pushed_next : (n m : ℕ) (p : Place) → m ≡ n + 1 → place_for Doubled (n + 1) (place_pushed n p) ≡ place_pushed m p
pushed_next n zero p is = absurd (omega (arith, is))
pushed_next n (suc m) p is =
    let same : n ≡ m = omega (arith, is) in
    ap (λ k. place_for Doubled k (place_pushed n p)) (omega (arith, is)) ∙ ap (λ k. place_for Doubled (suc m) (place_pushed k p)) same

-- the list is inline exactly if it was and fits the array
pub pushed_inline : (n : ℕ) (p : Place) → IsTrue (place_pushed n p).inline → IsTrue p.inline × (n ≤ p.capacity)
pushed_inline zero p i = (i, omega arith)
pushed_inline (suc n) p i =
    let last = was_inline Doubled (suc n) (place_pushed n p) i in
    let before = pushed_inline n p last.0 in
    (before.0, omega (arith, last.1, ap (λ q. q.capacity) (pushed_same n p before.1)))

pub ok_of : {X E P : Type 0} (r : Result X E) → false ≡ is_err r → OnOk r P → P
ok_of (Ok x) ok p = p
ok_of (Err e) ok p = absurd (false≢true ok)

pub if_err_and : {X E : Type 0} (P : E → Type 0) (Q : Type 0) (r : Result X E) → IfErr r P → OnErr r Q → IfErr r (λ e. P e × Q)
if_err_and P Q (Ok x) p q = tt
if_err_and P Q (Err e) p q = (p, q)

-- what would not fail if there was room had none
pub no_room : (need room : ℕ) → (need ≤ room → ⊥) → room < need
no_room need room full = elim (cases_lt room need) [ inl less ↦ less | inr fits ↦ absurd (full fits) ]

module _ {T : Type 0} (D : T → Type 0) (how : Growth) (need : ℕ) (old new : TinyView T) where
  -- there was room
  pub had_place : (xs : List T) → need ≤ old.place.capacity → Becomes D old new xs → BecomesIn D old new xs (place_for how need old.place)
  had_place xs room put = record {
    items = put.items;
    place = put.place ∙ sym (place_same how need old.place room);
    slot_rule = put.slot_rule;
    fits = put.fits;
  }

  -- room was made first
  pub grew_place : (xs ys : List T) (mid : TinyView T) → mid.place ≡ place_for how need old.place → (IsTrue mid.place.inline → mid ≡ old) → xs ≡ ys
      → Becomes D mid new xs → BecomesIn D old new ys (place_for how need old.place)
  grew_place xs ys mid grown stays same put = record {
    items = put.items ∙ same;
    place = put.place ∙ grown;
    slot_rule = slots_after_room D old mid new stays put.place put.slot_rule;
    fits = put.fits;
  }

pub has_room : {T : Type 0} (D : T → Type 0) (how : Growth) (need : ℕ) (old new : TinyView T) (xs : List T) → BecomesIn D old new xs (place_for how need old.place) → need ≤ new.place.capacity
has_room D how need old new xs put = omega (arith, place_enough how need old.place, ap (λ p. p.capacity) put.place)

-- the same of any list
pub any_list : {T N : Type 0} {D : T → Type 0} {old new : View T N} {xs : List T} {p : PlaceOf N} → BecomesIn D old new xs p → BecomesIn D old new new.items p
any_list h = record { items = refl; place = h.place; slot_rule = h.slot_rule; fits = h.fits }

-- a write of items that are there
pub becomes_framed : {T : Type 0} (D : T → Type 0) (old mid new : TinyView T) (xs ys : List T) (p : Place) → BecomesIn D old mid xs p → SameFrame mid new → new.items ≡ ys
    → BecomesIn D old new ys p
becomes_framed D old mid new xs ys p h frame is = record {
  items = is;
  place = frame.place ∙ h.place;
  slot_rule = tiny_slots_then_framed D old mid new h.slot_rule frame;
  fits = omega (arith, h.fits, frame.len, ap (λ p. p.capacity) frame.place);
}

-- what a call that fails leaves
pub err_of : {X E P : Type 0} (r : Result X E) → true ≡ is_err r → OnErr r P → P
err_of (Ok x) err p = absurd (false≢true (sym err))
err_of (Err e) err p = p

-- Places on the heap, by where the list was: in the array, or with this room.
enough_side : (b : Bool) (room need : ℕ) → need ≤ (heap_for need (record { inline = b; capacity = room; lender = tt })).capacity
enough_side true room need = le_refl need
enough_side false room need = place_enough Reserved need (on_heap room)

grown_side : (b : Bool) (room need : ℕ) → room < need → heap_for need (record { inline = b; capacity = room; lender = tt }) ≡ place_for Reserved need (record { inline = b; capacity = room; lender = tt })
grown_side true room need less = sym (place_grown Reserved need (in_array room) less)
grown_side false room need less = refl

doubled_side : (b : Bool) (room n : ℕ) → n ≡ max room 1 → heap_for (room + n) (record { inline = b; capacity = room; lender = tt }) ≡ place_for Doubled (room + 1) (record { inline = b; capacity = room; lender = tt })
doubled_side true room n is = ap on_heap (omega (arith, is)) ∙ sym (place_grown Doubled (room + 1) (in_array room) (omega arith))
doubled_side false room n is =
    place_grown Reserved (room + n) (on_heap room) (omega (arith, is)) ∙ ap on_heap (omega (arith, is)) ∙ sym (place_grown Doubled (room + 1) (on_heap room) (omega arith))

pub heap_enough : (need : ℕ) (p : Place) → need ≤ (heap_for need p).capacity
heap_enough need p = enough_side p.inline p.capacity need

-- a list that lacks the room moves as it reserves
pub heap_grown : (need : ℕ) (p : Place) → p.capacity < need → heap_for need p ≡ place_for Reserved need p
heap_grown need p = grown_side p.inline p.capacity need

-- a full list that gets as much room as it has, or for one item, doubles it
pub heap_doubled : (len n : ℕ) (p : Place) → n ≡ max len 1 → len ≡ p.capacity → heap_for (len + n) p ≡ place_for Doubled (len + 1) p
heap_doubled len n p is full = rw full (doubled_side p.inline p.capacity n (rw full at is))

-- a list that grew, and then took one more item
pub grows_pushed : {T : Type 0} (D : T → Type 0) (u v w : TinyView T) (xs : List T) → length u.items ≤ length v.items → length w.items ≡ length v.items + 1
    → GrowsByPushes D u v → BecomesIn D v w xs (place_for Doubled (length v.items + 1) v.place) → GrowsByPushes D u w
grows_pushed D u v w xs le one h put = record {
  items = refl;
  place = put.place ∙ ap (place_for Doubled (length v.items + 1)) h.place ∙ pushed_next (length v.items) (length w.items) u.place one;
  slot_rule = tiny_slots_then D u v w (λ i. (was_inline Doubled (length v.items + 1) v.place (ap (λ p. p.inline) (sym put.place) ∙ i)).0) le (omega (arith, one)) h.slot_rule put.slot_rule;
  fits = put.fits;
}

-- and then became no shorter in its place
pub grows_stays : {T : Type 0} (D : T → Type 0) (u v w : TinyView T) → length u.items ≤ length v.items → length v.items ≤ length w.items → GrowsByPushes D u v → StaysInPlace D v w → GrowsByPushes D u w
grows_stays D u v w le more h k = record {
  items = refl;
  place = k.place ∙ h.place
      ∙ sym (pushed_further (length v.items) (length w.items) u.place more (omega (arith, k.fits, ap (λ p. p.capacity) k.place, ap (λ p. p.capacity) h.place)));
  slot_rule = tiny_slots_then D u v w (λ i. sym (ap (λ p. p.inline) k.place) ∙ i) le more h.slot_rule k.slot_rule;
  fits = k.fits;
}

-- what was collected until there was no room fills the array at least
pub collected_full : {T : Type 0} (D : T → Type 0) (slots : ℕ) (xs : List T) (v : TinyView T) → IsCollected D slots xs v → length xs ≡ v.place.capacity
    → (slots ≤ length xs) × (IsTrue v.place.inline ↔ (length xs ≤ slots))
collected_full D slots xs v h full = (
  omega (arith, full, pushed_no_less (length xs) (in_array slots), ap (λ p. p.capacity) h.place),
  (λ i. (pushed_inline (length xs) (in_array slots) (sym (ap (λ p. p.inline) h.place) ∙ i)).1, λ fits. ap (λ p. p.inline) (h.place ∙ pushed_same (length xs) (in_array slots) fits)),
)
