-- Lemmas on what a call leaves of place and capacity.
use Rattle.std.proofs.Common.{Vec, Global, vec_len, vec_capacity, ◌≡◌, ◌==◌, ◌∙◌, ℕ, ◌-◌, ◌<◌, ◌≤◌, List, length, slice_index_or, Option, Some, None, inl, inr, refl, sym, ap, arith}
use Rattle.std.specs.Prelude.{true, slice_get, IsSome, ◌↔◌}
use Rattle.std.proofs.lemmas.Bool.{eqb-true, false≢true, cases_lt}
use Rattle.std.proofs.lemmas.Option.{slice_get-get_or, slice_get_past}
use Rattle.tinyvec_array.specs.View.{view as slots_view}
use Rattle.tinyvec_array.specs.declared.array_vec.ArrayVec.{ArrayVec}
use Rattle.tinyvec.specs.View.{TinyView, Becomes, StaysInPlace, in_array, on_heap}
use Rattle.tinyvec_array.specs.declared.slots.Slots as Storage
use Rattle.tinyvec.specs.TinyVec.{view}
use Rattle.tinyvec.specs.declared.tiny_vec.TinyVec.{TinyVec}
use Rattle.tinyvec.specs.declared.tiny_vec.TinyVec.TheVariants.{Inline, Heap}
use Rattle.tinyvec.proofs.TinyLemmas.{heap_view, slots_taken}
use Rattle.tinyvec_array.proofs.ViewLemmas.{parts_of}

-- what a call did to the array of a list
pub inline_becomes : {A T L : Type 0} (g : Storage.Ghosts A T L) (D : T → Type 0) (v w : ArrayVec A L) (a b : Global) (xs : List T)
    → Becomes D (slots_view g v) (slots_view g w) xs → Becomes D (view g (Inline v a)) (view g (Inline w b)) xs
inline_becomes g D v w a b xs h = record { items = h.items; place = ap in_array (ap (λ p. p.capacity) h.place); slot_rule = h.slot_rule; fits = h.fits }

module _ {T : Type 0} (D : T → Type 0) where
  -- a list that is as it was
  pub stays_same : (v : TinyView T) → length v.items ≤ v.place.capacity → StaysInPlace D v v
  stays_same v fits = record { items = refl; place = refl; slot_rule = slots_taken D v v 0 (omega arith) refl; fits = fits }

-- a list that has no spare slot, or no room on the heap, is full
pub full_inline : {A T L : Type 0} (g : Storage.Ghosts A T L) (old : TinyVec A T L) (v : ArrayVec A L) (a : Global) → old ≡ Inline v a
    → true ≡ (length (slots_view g v).spare == 0) → length (view g old).items ≡ (view g old).place.capacity
full_inline g old v a was none = rw was (omega (arith, parts_of g v, eqb-true (length (slots_view g v).spare) 0 (sym none)))

pub full_heap : {A T L : Type 0} (g : Storage.Ghosts A T L) (old : TinyVec A T L) (v : Vec T Global) → old ≡ Heap v → vec_capacity v ≤ vec_len v
    → length (view g old).items ≡ (view g old).place.capacity
full_heap g old v was le = rw was (omega (arith, v.ok.0, v.ok.1, le))

-- a list on the heap, which has no spare slots
pub heap_becomes : {T : Type 0} (D : T → Type 0) (v w : Vec T Global) (xs : List T) → w.items ≡ xs → vec_capacity w ≡ vec_capacity v → Becomes D (heap_view v) (heap_view w) xs
heap_becomes D v w xs is same = record { items = is; place = ap on_heap same; slot_rule = tt; fits = omega (arith, w.ok.0, w.ok.1) }

-- what a `Vec` of n items pops is the last one
pub last_value : {T : Type 0} (xs : List T) (n : ℕ) (r : Option T) → n ≡ length xs → IsSome r ↔ (0 < n) → ((d : T) → 0 < n → r ≡ Some (slice_index_or xs (n - 1) d)) → r ≡ slice_get xs (length xs - 1)
last_value xs n (Some x) long some value =
    let lt : 0 < n = some.0 refl in
    value x lt ∙ ap (λ k. Some (slice_index_or xs (k - 1) x)) long ∙ sym (slice_get-get_or xs (length xs - 1) x (omega (arith, lt, long)))
last_value xs n None long some value =
    elim (cases_lt 0 n) [
      | inl lt ↦ absurd (false≢true (some.1 lt))
      | inr le ↦ sym (slice_get_past xs (length xs - 1) (omega (arith, le, long)))
    ]
