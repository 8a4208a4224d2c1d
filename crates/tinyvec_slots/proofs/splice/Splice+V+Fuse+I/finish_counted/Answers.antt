use Rattle.std.proofs.Common.{◌^◌, ◌-◌, ◌≡◌, ◌≤◌, ◌++◌, ◌∙◌, ◌+◌, ◌*◌, ◌<◌, List, Ok, ℕ, Bool, drop, length, length-take, length-drop, refl, sym, ap, arith, rules, true, false}
use Rattle.std.proofs.lemmas.Result.{on_err_weaker}
use Rattle.std.specs.Prelude.{⊤}
use Rattle.std.specs.Bool.{MatchBool}
use Rattle.std.specs.declared.iter.Fuse.{Fuse}
use Rattle.std.specs.Iterator.Adapters.{fuse_steps}
use Rattle.tinyvec_slots.specs.declared.gap.Gap.{Gap}
use Rattle.tinyvec_slots.specs.Touches.{FitsBits}
use Rattle.tinyvec_slots.specs.Fused.{fused_rest}
use Rattle.tinyvec_slots.specs.Gap.{gap_front, gap_back, gap_view, gap_touches, GapCanStep, GapLies}
use Rattle.tinyvec_slots.specs.AnySplice.{SpliceView, Finishes, FinishesWith}
use Rattle.tinyvec_slots.specs.Filling.{ShowsItems}
use Rattle.tinyvec_slots.proofs.Fused.{fused_first}
use Rattle.tinyvec_slots.proofs.ReplacingLemmas.{finished_known}
use Rattle.tinyvec_slots.proofs.FinishLemmas.{finished_longer, finishes_with, finishes_closed, finishes_appended, touches_closed, touches_appended}
use Rattle.tinyvec_slots.proofs.splice.Splice+V+Fuse+I.finish_counted.Goals.{After-fill}
use Rattle.tinyvec_slots.proofs.splice.Splice+V+Fuse+I.finish_counted.Goals as goal

-- what `fill` and what follows it ask for
before_it : (m n : ℕ) → m < n → m ≤ n
before_it m n less = omega arith

lies_there : (gap : Gap) (ended : Bool) (len : ℕ) → GapCanStep gap ended len → GapLies gap len
lies_there gap ended len can = (omega (arith, can.front_le_next, can.next_le_end, can.end_le_back), can.back_le_len, omega (arith, can.few))

still_few : {T : Type 0} (gap : Gap) (ended : Bool) (xs : List T) → GapCanStep gap ended (length xs) → (slots : List T) (new : Gap) → length slots < 2 ^ 64 → slots ≡ xs
    → gap_touches new ≡ gap_touches gap + 2 * (gap_front new - gap_front gap) → gap_front new ≤ gap_back gap → FitsBits 70 (gap_touches new)
still_few gap ended xs can slots new short shown touches order =
    let long = ap length shown in
    omega (arith, can.few, can.back_le_len)

ends_still : (b : Bool) {P Q : Type 0} → MatchBool b P ⊤ → (P → Q) → MatchBool b Q ⊤
ends_still true ends then = then ends
ends_still false ends then = ends

-- the gap, as it was filled
module _ (g : _) (c : After-fill g) where
  abbrev refilled : g.row.V.Denot
  refilled = g.V.CanCut.with_items c.args.self.vec.now c.fill.new.slots

  same : length c.fill.new.slots ≡ length (g.V.CanCut.items c.args.self.vec.now)
  same = c.fill.auto.slots ∙ ap length c.as_mut_slice.ensures.value

  is_written : (g.V.CanCut.items refilled ≡ c.fill.new.slots) × g.V.CanCut.Kept c.args.self.vec.now refilled
  is_written = g.met.V.CanCut.written c.args.self.vec.now c.fill.new.slots same

  same_len : length (g.V.CanCut.items refilled) ≡ length (g.V.CanCut.items c.args.self.vec.now)
  same_len = ap length is_written.0 ∙ same

  abbrev old : SpliceView (Fuse g.row.I.Denot) g.row.V-Item.Denot
  old = gap_view c.args.self.gap c.args.self.replacement (g.V.CanCut.items c.args.self.vec.now)

  abbrev mid : SpliceView (Fuse g.row.I.Denot) g.row.V-Item.Denot
  mid = gap_view c.fill.new.self c.fill.new.replacement (g.V.CanCut.items refilled)

  front_is : mid.front ≡ old.front ++ c.fill.ensures.placed.0
  front_is = rw (is_written.0, ← c.as_mut_slice.ensures.value) c.fill.ensures.placed.1

  back_is : mid.back ≡ old.back
  back_is = rw (is_written.0, c.fill.ensures.back, ← c.as_mut_slice.ensures.value) c.fill.ensures.behind

-- the replacement ended in the gap
module _ (g : _) (c : goal.After-drop-rest g) where
  abbrev filled : After-fill g
  filled = (goal.at.returns-then-not-fill-clause-finish g c).After-fill

  closed : Finishes (fuse_steps g.I.Iterator.next_gives) (g.V.CanCut.room c.splice_stop.new.vec) (old g filled) (Ok tt) (g.V.CanCut.items c.splice_stop.new.vec)
  closed =
      finishes_closed (fuse_steps g.I.Iterator.next_gives) (g.V.CanCut.room c.splice_stop.new.vec) (old g filled) (mid g filled) c.fill.ensures.placed.0 (front_is g filled) (back_is g filled)
      tt (g.V.CanCut.items c.splice_stop.new.vec) (rw c.if-not-fill.true at c.fill.ensures.placed.3) c.splice_stop.ensures.items c.splice_stop.ensures.shorter.fits

pub returns-then-not-fill-clause-touches : goal.returns-then-not-fill-clause-touches
returns-then-not-fill-clause-touches g c = λ is.
    let xs = g.V.CanCut.items c.args.self.vec.now in
    let same = same_len g (filled g c) in
    rw (c.touches.ensures, c.splice_stop.ensures.touches is, c.fill.ensures.touches, same) (
    touches_closed (old g (filled g c)) (length xs) (g.V.CanCut.items c.splice_stop.new.vec) (gap_front c.args.self.gap) (gap_back c.args.self.gap)
    (length-take (gap_front c.args.self.gap) xs) (length-drop (gap_back c.args.self.gap) xs) c.requires.can.0.back_le_len
    (gap_front c.fill.new.self) c.fill.ensures.in_order.0 (rw c.if-not-fill.true at c.fill.ensures.filled) (rw (same, c.fill.ensures.back) at c.splice_stop.ensures.len))

pub returns-then-not-fill-clause-finish : goal.returns-then-not-fill-clause-finish
returns-then-not-fill-clause-finish g c =
    let gives = g.I.Iterator.next_gives in
    let laws = g.met.V.CanSplice in
    let vec = refilled g (filled g c) in
    let new = c.splice_stop.new.vec in
    let cut = laws.cut_grown vec new c.splice_stop.ensures.shorter.cut c.splice_stop.ensures.shorter.fits in
    let grown = laws.kept_grown c.args.self.vec.now vec new new (is_written g (filled g c)).1 cut (laws.kept_same new) in record {
      finished = closed g c;
      changes = grown;
      no_shorter = search rules;
      goes_on = search rules;
      listed = λ rest shows. finishes_with (fuse_steps gives) _ (old g (filled g c)) (g.V.CanCut.items new) (fused_rest rest) (fused_first gives rest shows) (Ok tt) (closed g c);
      succeeds = search rules;
      known = λ xs yields. finished_known gives _ _ (laws.grown_room _ _ grown) _ xs _ yields _ (closed g c);
    }

-- more was appended
module _ (g : _) (c : goal.After-touches-2 g) where
  abbrev filled-2 : After-fill g
  filled-2 = (goal.at.returns-clause-finish g c).After-fill

  appended : Finishes (fuse_steps g.I.Iterator.next_gives) (g.V.CanCut.room c.append_in-finished.new.vec) (old g filled-2) c.append_in-finished.result (g.V.CanCut.items c.append_in-finished.new.vec)
  appended =
      finishes_appended (fuse_steps g.I.Iterator.next_gives) (g.V.CanCut.room c.append_in-finished.new.vec) (old g filled-2) (mid g filled-2) c.fill.ensures.placed.0 (front_is g filled-2) (back_is g filled-2)
      c.append_in-finished.result (g.V.CanCut.items c.append_in-finished.new.vec) (rw c.if-not-fill.false at c.fill.ensures.placed.3) c.append_in-finished.ensures.finished

  longer : length (g.V.CanCut.items (refilled g filled-2)) ≤ length (g.V.CanCut.items c.append_in-finished.new.vec)
  longer =
      finished_longer (fuse_steps g.I.Iterator.next_gives) _ (mid g filled-2) (g.V.CanCut.items c.append_in-finished.new.vec) (gap_front c.fill.new.self) (g.V.CanCut.items (refilled g filled-2)) refl
      (ap (λ k. drop k (g.V.CanCut.items (refilled g filled-2))) (c.fill.ensures.back ∙ sym (rw c.if-not-fill.false at c.fill.ensures.filled).0)) c.append_in-finished.result c.append_in-finished.ensures.finished

  listed : (rest : g.row.I.Denot → List g.row.V-Item.Denot) → ShowsItems g.I.Iterator.next_gives rest
      → FinishesWith (fused_rest rest) (g.V.CanCut.room c.append_in-finished.new.vec) (old g filled-2) c.append_in-finished.result (g.V.CanCut.items c.append_in-finished.new.vec)
  listed rest shows =
      finishes_with (fuse_steps g.I.Iterator.next_gives) _ (old g filled-2) (g.V.CanCut.items c.append_in-finished.new.vec) (fused_rest rest) (fused_first g.I.Iterator.next_gives rest shows) c.append_in-finished.result appended

pub returns-clause-touches : goal.returns-clause-touches
returns-clause-touches g c = λ is.
    let xs = g.V.CanCut.items c.args.self.vec.now in
    let vec = refilled g (filled-2 g c) in
    let same = same_len g (filled-2 g c) in
    let met = c.append_in-finished.ensures in
    let at = (rw c.if-not-fill.false at c.fill.ensures.filled).0 in
    rw c.touches-2.ensures (
    touches_appended (old g (filled-2 g c)) (length xs) (g.V.CanCut.items c.append_in-finished.new.vec) (gap_front c.args.self.gap) (gap_back c.args.self.gap)
    (length-take (gap_front c.args.self.gap) xs) (length-drop (gap_back c.args.self.gap) xs) c.requires.can.0.back_le_len
    (rw at at c.fill.ensures.in_order.0) (rw same at (longer g c)) (rw at at c.fill.ensures.touches) ((rw same at met.none) is) ((rw same at met.at_least) is) ((rw (same, at) at met.at_most) is))

pub returns-clause-finish : goal.returns-clause-finish
returns-clause-finish g c =
    let gives = g.I.Iterator.next_gives in
    let laws = g.met.V.CanSplice in
    let vec = refilled g (filled-2 g c) in
    let new = c.append_in-finished.new.vec in
    let grown = laws.kept_grown c.args.self.vec.now vec new new (is_written g (filled-2 g c)).1 c.append_in-finished.ensures.grown (laws.kept_same new) in
    let same_room = laws.kept_room c.args.self.vec.now vec (is_written g (filled-2 g c)).1 in
    let longer : length (g.V.CanCut.items c.args.self.vec.now) ≤ length (g.V.CanCut.items new) = omega (arith, longer g c, same_len g (filled-2 g c)) in
    let more_room = laws.grown_room vec new c.append_in-finished.ensures.grown in record {
      finished = appended g c;
      changes = grown;
      no_shorter = on_err_weaker c.append_in-finished.result (λ full. longer) (appended g c).full;
      goes_on = search rules;
      listed = listed g c;
      succeeds = λ rest shows within. (listed g c rest shows).succeeds.1 (omega (arith, within, more_room, same_room));
      known = λ xs yields. finished_known gives _ _ (laws.grown_room _ _ grown) _ xs _ yields _ (appended g c);
    }

pub fill-requires-clause-lies : goal.fill-requires-clause-lies
fill-requires-clause-lies g c = rw c.as_mut_slice.ensures.value (lies_there _ _ _ c.requires.can.0)

pub fill-requires-clause-can : goal.fill-requires-clause-can
fill-requires-clause-can g c = c.requires.can.1

pub splice_stop-requires-clause-in_bounds : goal.splice_stop-requires-clause-in_bounds
splice_stop-requires-clause-in_bounds g c =
    rw (c.fill.ensures.back, same_len g (goal.at.splice_stop-requires-clause-in_bounds g c).After-fill) (
      before_it _ _ (rw c.if-not-fill.true at c.fill.ensures.filled),
      c.requires.can.0.back_le_len,
    )

pub splice_stop-requires-clause-few : goal.splice_stop-requires-clause-few
splice_stop-requires-clause-few g c = still_few _ _ _ c.requires.can.0 c.as_mut_slice.result.now c.fill.new.self c.as_mut_slice.type_inv.0 c.as_mut_slice.ensures.value c.fill.ensures.touches c.fill.ensures.in_order.1

pub append_in-finished-requires-clause-few : goal.append_in-finished-requires-clause-few
append_in-finished-requires-clause-few g c = still_few _ _ _ c.requires.can.0 c.as_mut_slice.result.now c.fill.new.self c.as_mut_slice.type_inv.0 c.as_mut_slice.ensures.value c.fill.ensures.touches c.fill.ensures.in_order.1

pub append_in-finished-requires-clause-filled : goal.append_in-finished-requires-clause-filled
append_in-finished-requires-clause-filled g c = (rw c.if-not-fill.false at c.fill.ensures.filled).0 ∙ sym c.fill.ensures.back

pub append_in-finished-requires-clause-in_bounds : goal.append_in-finished-requires-clause-in_bounds
append_in-finished-requires-clause-in_bounds g c =
    rw ((rw c.if-not-fill.false at c.fill.ensures.filled).0, same_len g (goal.at.append_in-finished-requires-clause-in_bounds g c).After-fill) c.requires.can.0.back_le_len

pub append_in-finished-requires-clause-can : goal.append_in-finished-requires-clause-can
append_in-finished-requires-clause-can g c = (rw c.if-not-fill.false at c.fill.ensures.filled).1

pub append_in-finished-requires-clause-finite : goal.append_in-finished-requires-clause-finite
append_in-finished-requires-clause-finite g c = ends_still g.V.CanSplice.must_end c.requires.finite c.fill.ensures.finite
