use Rattle.std.proofs.Common.{◌≡◌, ◌+◌, ◌-◌, ◌≤◌, ◌++◌, ◌∙◌, ◌^◌, ◌<◌, ℕ, List, length, take, drop, slice_range, refl, sym, ap, arith, length-drop, take_at, drop_at, length-append}
use Rattle.std.proofs.lemmas.List.{take-append-le, drop-append-le}
use Rattle.std.proofs.lemmas.Result.{on_err_weaker}
use Rattle.tinyvec_slots.proofs.splice.append_in.Goals.{After-vec-1}
use Rattle.tinyvec_slots.proofs.splice.append_in.Goals as goal

-- what was appended, moved to where the gap was
brought_in : {T : Type 0} (xs placed all slots list : List T) (front back end : ℕ) → all ≡ xs ++ placed → end ≡ length xs → front ≤ length xs → front ≡ back
    → slots ≡ take front all ++ drop end all ++ slice_range all front end → list ≡ slots → list ≡ take front xs ++ placed ++ drop back xs
brought_in xs placed all slots list front back end whole last le closed brought is =
    rw (
      is,
      brought,
      whole,
      last,
      ← closed,
      take-append-le front xs placed le,
      drop_at xs placed (length xs) refl,
      drop-append-le front xs placed le,
      take_at (drop front xs) placed (length xs - front) (length-drop front xs),
    ) refl

ends_within : {T : Type 0} (all xs placed : List T) (end : ℕ) → all ≡ xs ++ placed → end ≡ length xs → end ≤ length all
ends_within all xs placed end whole last = omega (arith, last, ap length whole, length-append xs placed)

few_still : (t u new old : ℕ) → t < 2 ^ 70 → new < 2 ^ 64 → u ≤ t + (new - old) → u < 2 ^ 80
few_still t u new old few short most = omega arith

-- u touches after the append, and v after the rotation
module _ (t u v new old : ℕ) (appended : u ≡ t + (new - old)) where
  counted_none : v ≡ u → new ≡ old → v ≡ t
  counted_none same none = omega arith

  counted_least : u ≤ v → t + (new - old) ≤ v
  counted_least le = omega arith

  counted_most : (moved : ℕ) → v ≤ u + moved → v ≤ t + (new - old) + moved
  counted_most moved le = omega arith

module _ (g : _) (c : After-vec-1 g) where
  abbrev xs : List g.row.V-Item.Denot
  xs = g.V.CanCut.items c.args.vec.now

  abbrev appended : g.row.V.Denot
  appended = c.append_counted-appended.new.self

  abbrev new : g.row.V.Denot
  new = g.V.CanCut.with_items appended c.rotate_in.new.slots

  shown : c.as_mut_slice.result.now ≡ g.V.CanCut.items appended
  shown = c.as_mut_slice.ensures.value

  is_written : (g.V.CanCut.items new ≡ c.rotate_in.new.slots) × g.V.CanCut.Kept appended new
  is_written = g.met.V.CanCut.written appended c.rotate_in.new.slots (c.rotate_in.auto.slots ∙ ap length shown)

  same_len : length (g.V.CanCut.items new) ≡ length (g.V.CanCut.items appended)
  same_len = g.met.V.CanSplice.kept_len appended new is_written.1

pub returns-clause-finished : goal.returns-clause-finished
returns-clause-finished g c =
    let met = c.append_counted-appended.ensures in
    let ran = met.ran in
    let same_room = g.met.V.CanSplice.kept_room (appended g c) (new g c) (is_written g c).1 in record {
      placed = ran.0;
      ran = ran.1;
      list_is = brought_in (xs g c) ran.0 (g.V.CanCut.items (appended g c)) c.rotate_in.new.slots _ _ _ c.len-end.result ran.2 c.len-end.ensures.value c.requires.in_bounds c.requires.filled
          (rw (shown g c) at c.rotate_in.ensures.brought) (is_written g c).0;
      full = on_err_weaker c.append_counted-appended.result (λ full. same_len g c ∙ full ∙ sym same_room) met.full;
      fits = rw (same_len g c, same_room) met.fits;
    }

pub returns-clause-grown : goal.returns-clause-grown
returns-clause-grown g c =
    g.met.V.CanSplice.kept_grown c.args.vec.now c.args.vec.now (appended g c) (new g c) (g.met.V.CanSplice.kept_same c.args.vec.now)
    c.append_counted-appended.ensures.grown (is_written g c).1

pub returns-clause-none : goal.returns-clause-none
returns-clause-none g c = λ is same.
    let met = c.append_counted-appended.ensures in
    let long : length (g.V.CanCut.items (appended g c)) ≡ length (xs g c) = sym (same_len g c) ∙ same in
    counted_none _ _ _ _ _ (met.touched is) (c.rotate_in.ensures.none (rw (shown g c, long) c.len-end.ensures.value)) long

pub returns-clause-at_least : goal.returns-clause-at_least
returns-clause-at_least g c = λ is. rw (same_len g c) (counted_least _ _ _ _ _ (c.append_counted-appended.ensures.touched is) c.rotate_in.ensures.at_least)

pub returns-clause-at_most : goal.returns-clause-at_most
returns-clause-at_most g c = λ is.
    rw (same_len g c) (counted_most _ _ _ _ _ (c.append_counted-appended.ensures.touched is) _ (simp (shown g c) at c.rotate_in.ensures.at_most))

pub append_counted-appended-requires-clause-can : goal.append_counted-appended-requires-clause-can
append_counted-appended-requires-clause-can g c = c.requires.can

pub append_counted-appended-requires-clause-finite : goal.append_counted-appended-requires-clause-finite
append_counted-appended-requires-clause-finite g c = c.requires.finite

pub rotate_in-requires-clause-in_bounds : goal.rotate_in-requires-clause-in_bounds
rotate_in-requires-clause-in_bounds g c =
    let ran = c.append_counted-appended.ensures.ran in (
      rw c.len-end.ensures.value c.requires.in_bounds,
      ends_within c.as_mut_slice.result.now (g.V.CanCut.items c.args.vec.now) ran.0 c.len-end.result (c.as_mut_slice.ensures.value ∙ ran.2) c.len-end.ensures.value,
    )

pub rotate_in-requires-clause-few : goal.rotate_in-requires-clause-few
rotate_in-requires-clause-few g c =
    few_still _ _ (length (g.V.CanCut.items c.append_counted-appended.new.self)) (length (g.V.CanCut.items c.args.vec.now)) c.requires.few
    (rw c.as_mut_slice.ensures.value at c.as_mut_slice.type_inv.0) c.append_counted-appended.ensures.few

pub returns-clause-goes_on : goal.returns-clause-goes_on
returns-clause-goes_on g c = c.append_counted-appended.ensures.goes_on
