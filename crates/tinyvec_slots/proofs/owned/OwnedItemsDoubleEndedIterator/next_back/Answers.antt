use Rattle.std.proofs.Common.{◌<◌, ◌≡◌, ◌++◌, ◌∷◌, List, [], arith, length, ap}
use Rattle.std.proofs.lemmas.List.{length_push}
use Rattle.tinyvec_slots.proofs.Lists.{slice_range_last}
use Rattle.tinyvec_slots.proofs.owned.OwnedItemsDoubleEndedIterator.next_back.Goals as goal

one_fewer : {T : Type 0} (old new : List T) (x : T) → old ≡ new ++ x ∷ [] → length new < length old
one_fewer old new x is = omega (arith, ap length is, length_push new x)

pub returns-clause-steps : goal.returns-clause-steps
returns-clause-steps g c =
    let inside = c.self.inside in
    let after = c.take_at.ensures.after in
    let left : inside.front < inside.back = omega (arith, c.self.invariant.0) in
    rw (after.2, ← c.self.view_is) (slice_range_last (g.V.CanCut.items inside.vec) inside.front inside.back c.take_at.result after.0 left c.self.invariant.1 c.take_at.ensures.value)

pub returns-clause-goes : goal.returns-clause-goes
returns-clause-goes g c = record { on = λ _. (tt, tt, one_fewer _ _ _ (returns-clause-steps g c)); keeps = tt; rests = λ _. tt }
