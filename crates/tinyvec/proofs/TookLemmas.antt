-- The call that put one more item into a list: in its array, in its allocation, or after it grew.
use Rattle.std.proofs.Common.{Vec, Global, vec_capacity, ◌≡◌, ◌==◌, ◌+◌, ◌≤◌, false, Result, Ok, Err, List, length, sym, ap, ◌∙◌, arith}
use Rattle.std.specs.Prelude.{OnOk}
use Rattle.std.specs.Result.{is_err}
use Rattle.std.proofs.lemmas.Bool.{false≢true, eqb-false}
use Rattle.tinyvec_array.specs.ArrayVec.{slots_of}
use Rattle.tinyvec_array.specs.View.{view as slots_view}
use Rattle.tinyvec_array.proofs.RuleLemmas.{none_vacated}
use Rattle.tinyvec_array.specs.declared.array_vec.ArrayVec.{ArrayVec}
use Rattle.tinyvec_array.specs.declared.slots.Slots as Storage
use Rattle.tinyvec_array.proofs.ViewLemmas.{parts_of}
use Rattle.tinyvec.specs.View.{Becomes, BecomesIn, NothingVacated, Doubled, place_for}
use Rattle.tinyvec.specs.TinyVec.{view}
use Rattle.tinyvec.specs.declared.tiny_vec.TinyVec.{TinyVec}
use Rattle.tinyvec.specs.declared.tiny_vec.TinyVec.TheVariants.{Inline, Heap}
use Rattle.tinyvec.proofs.TinyLemmas.{heap_view}
use Rattle.tinyvec.proofs.FrameLemmas.{inline_becomes, heap_becomes}
use Rattle.tinyvec.proofs.PlaceLemmas.{had_place, grew_place, was_inline}

-- it left the list xs, in room that was there or was made
abbrev pub Took : {A T L : Type 0} → Storage.Ghosts A T L → (T → Type 0) → List T → TinyVec A T L → TinyVec A T L → Type 0
Took g D xs old new = BecomesIn D (view g old) (view g new) xs (place_for Doubled (length (view g old).items + 1) (view g old).place)

module _ {A T L : Type 0} (g : Storage.Ghosts A T L) (D : T → Type 0) (put : List T → List T) (old new : TinyVec A T L) where
  pub took_inline : (v w : ArrayVec A L) (a b : Global) → old ≡ Inline v a → new ≡ Inline w b → false ≡ (length (slots_view g v).spare == 0)
      → Becomes NothingVacated (slots_view g v) (slots_view g w) (put (slots_view g v).items) → Took g D (put (view g old).items) old new
  took_inline v w a b was is some made =
      let room : length (slots_view g v).items + 1 ≤ length (slots_of g v) = omega (arith, parts_of g v, eqb-false (length (slots_view g v).spare) 0 (sym some)) in
      let list = inline_becomes g D v w a b (put (slots_view g v).items) (none_vacated D made) in
      rw (is, was) (had_place D Doubled (length (slots_view g v).items + 1) (view g (Inline v a)) (view g (Inline w b)) (put (slots_view g v).items) room list)

  pub took_heap : (v w : Vec T Global) → old ≡ Heap v → new ≡ Heap w → length v.items + 1 ≤ vec_capacity v → w.items ≡ put v.items → vec_capacity w ≡ vec_capacity v
      → Took g D (put (view g old).items) old new
  took_heap v w was is room items same =
      rw (is, was) (had_place D Doubled (length v.items + 1) (heap_view v) (heap_view w) (put v.items) room (heap_becomes D v w (put v.items) items same))

  pub took_grown : {X F : Type 0} (mid : TinyVec A T L) (r : Result X F) → false ≡ is_err r → length (view g old).items ≡ (view g old).place.capacity
      → OnOk r (Took g D (view g old).items old mid) → Becomes D (view g mid) (view g new) (put (view g mid).items) → Took g D (put (view g old).items) old new
  took_grown mid (Ok x) ok full made list =
      grew_place D Doubled (length (view g old).items + 1) (view g old) (view g new) _ _ (view g mid) made.place
      (λ i. absurd (omega (arith, full, (was_inline Doubled (length (view g old).items + 1) (view g old).place (sym (ap (λ p. p.inline) made.place) ∙ i)).1)))
      (ap put made.items) list
  took_grown mid (Err e) ok full made list = absurd (false≢true ok)
