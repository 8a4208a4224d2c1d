use Rattle.std.proofs.Common.{◌≡◌, ◌+◌, ◌-◌, ◌<◌, ◌≤◌, ◌++◌, ◌∙◌, ℕ, Bool, List, Option, length, take, drop, slice_range, refl, ap, arith}
use Rattle.std.specs.Borrow.{MutBor}
use Rattle.std.specs.Fn.{CalledAtMut, Mut}
use Rattle.std.specs.List.Retain.{ExtractsNext}
use Rattle.std.specs.Option.{option_len}
use Rattle.tinyvec_slots.specs.Extracting.{extract_lender, ExtractSteps}
use Rattle.tinyvec_slots.specs.declared.extracting.ExtractIf.{ExtractIf}
use Rattle.tinyvec_slots.proofs.extracting.ExtractIfIterator.next.Goals as goal

-- what `take_chosen` says of the slots, as `next` says it of the vector
step_of : {V T F : Type 0} (items : V → List T) (Truncated : V → V → Type 0) (f : Mut F (MutBor T × Unit {0}) (Bool × (MutBor T × Unit {0})))
    (old new : ExtractIf V F T) (item : Option T) (xs ys : List T) (from : ℕ)
    → extract_lender new ≡ extract_lender old → new.end ≡ old.end → xs ≡ items old.vec.now → items new.vec.now ≡ ys → length ys ≡ length xs
    → ((v : V) → Truncated new.vec.now v → Truncated old.vec.now v) → from ≡ new.front + new.gap → from ≤ old.end
    → (kept : List T) × ExtractsNext (CalledAtMut f) old.pred (slice_range xs (old.front + old.gap) old.end) item new.pred kept (slice_range ys from old.end)
    × (take new.front ys ≡ take old.front xs ++ kept)
    → drop old.end ys ≡ drop old.end xs → ExtractSteps items Truncated f old item new
step_of items Truncated f old new item xs ys from lender last shown written long cut next within asked back = record {
  kept = asked.0;
  asked = rw (last, written, ← shown, ← next) asked.1;
  front = ap (take new.front) written ∙ asked.2 ∙ ap (λ l. take old.front l ++ asked.0) shown;
  keeps = record {
    same_reference = lender;
    back = rw (last, written, ← shown) back;
    lies = λ lies. rw (last, written, long, shown, ← next) (within, lies.1);
    cut = cut;
  };
}

-- an item that was taken leaves fewer
taken : (front to gap end : ℕ) → front ≤ to → to + gap + 1 ≤ end → (to + (gap + 1) ≤ end) × (end - to - (gap + 1) < end - front - gap)
taken front to gap end more within = (omega arith, omega arith)

pub returns-in_err-item-clause-steps : goal.returns-in_err-item-clause-steps
returns-in_err-item-clause-steps g c =
    let e = c.args.self.now in
    let turned = c.take_chosen-front in
    let met = turned.ensures in
    let shown = c.as_mut_slice.ensures.value in
    let written = g.met.V.CanCut.written e.vec.now turned.new.items (turned.auto.items ∙ ap length shown) in
    let next : turned.result.0 + e.gap + option_len turned.result.1 ≡ turned.result.0 + e.gap = rw c.in_err-item.was (omega arith) in
    rw (c.from_residual.ensures, ← c.in_err-item.was) (
    step_of _ _ _ _ _ _ c.as_mut_slice.result.now turned.new.items _ refl refl shown written.0 turned.auto.items
    (λ v cut. g.met.V.CanCut.kept_cut e.vec.now _ v written.1 cut) next met.order.1 met.asked met.back)

pub returns-clause-steps : goal.returns-clause-steps
returns-clause-steps g c =
    let e = c.args.self.now in
    let turned = c.take_chosen-front in
    let met = turned.ensures in
    let shown = c.as_mut_slice.ensures.value in
    let written = g.met.V.CanCut.written e.vec.now turned.new.items (turned.auto.items ∙ ap length shown) in
    let next : turned.result.0 + e.gap + option_len turned.result.1 ≡ turned.result.0 + (e.gap + 1) = rw c.in_ok-item.was (omega arith) in
    rw (← c.in_ok-item.was) (
    step_of _ _ _ _ _ _ c.as_mut_slice.result.now turned.new.items _ refl refl shown written.0 turned.auto.items
    (λ v cut. g.met.V.CanCut.kept_cut e.vec.now _ v written.1 cut) next met.order.1 met.asked met.back)

pub returns-in_err-item-clause-goes : goal.returns-in_err-item-clause-goes
returns-in_err-item-clause-goes g c = rw c.from_residual.ensures record { on = λ _. tt; keeps = tt; rests = λ finite. finite }

pub returns-clause-goes : goal.returns-clause-goes
returns-clause-goes g c =
    let e = c.args.self.now in
    let turned = c.take_chosen-front in
    let met = turned.ensures in
    let shown = c.as_mut_slice.ensures.value in
    let written = g.met.V.CanCut.written e.vec.now turned.new.items (turned.auto.items ∙ ap length shown) in
    let fewer = taken e.front turned.result.0 e.gap e.end met.order.0 (rw c.in_ok-item.was at met.order.1) in
    let inside = rw (← shown, ← turned.auto.items, ← written.0) at c.requires.0.1 in record {
      on = λ _. (((fewer.0, inside), met.callable), tt, fewer.1);
      keeps = ((fewer.0, inside), met.callable);
      rests = λ _. tt;
    }
