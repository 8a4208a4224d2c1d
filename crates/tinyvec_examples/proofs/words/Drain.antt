-- Examples of a drain d of `[1, 2, 3, 4]` over 1..3, from which nothing was taken, and of one e that a call leaves.
use Rattle.std.proofs.Common.{◌≡◌, ℕ, [], ◌∷◌, ◌++◌, Some, refl, rules}
use Rattle.std.specs.Borrow.{MutBor}
use Rattle.tinyvec_slots.specs.Ends.{RunsWord, TakesFromEnds, front, back}
use Rattle.tinyvec_slots.specs.Drain.{drain_items, drain_len, drain_others, drain_vec, drain_lender, DrainCanStep, DrainLeaves, DrainSteps, DrainStepsBack, DrainsFromEnds, DrainBegins}
use Rattle.tinyvec_slots.specs.declared.can_drain.CanDrain as CanDrain
use Rattle.tinyvec_slots.specs.declared.drain.Drain.{Drain}

-- of any vector that a drain takes from
module _ {V : Type 0} (G : CanDrain.Ghosts V ℕ) (d e : Drain V ℕ) (v : V) (vec : d.vec.now ≡ v) (held : G.drained_list v ≡ 1 ∷ 2 ∷ 3 ∷ 4 ∷ []) (start : d.start ≡ 1) (gap : d.gap ≡ 2) (first : d.front ≡ 1) (last : d.back ≡ 3) where
  pub example-drain_items : drain_items G d ≡ 2 ∷ 3 ∷ []
  example-drain_items = rw (vec, held, first, last) refl

  pub example-drain_len : drain_len d ≡ 2
  example-drain_len = rw (first, last) refl

  pub example-drain_others : drain_others G d ≡ 1 ∷ 4 ∷ []
  example-drain_others = rw (vec, held, start, gap) refl

  pub example-drain_vec : drain_vec d ≡ v
  example-drain_vec = vec

  pub example-drain_lender : drain_lender d ≡ d.vec.ghost_name
  example-drain_lender = refl

  pub example-DrainCanStep : DrainCanStep G d
  example-DrainCanStep = rw (vec, held, start, gap, first, last) search rules

  pub example-DrainLeaves : (w : V) → G.Ended 1 2 v w → DrainLeaves G d w
  example-DrainLeaves w h = rw (vec, start, gap) h

  pub example-DrainSteps : DrainSteps G d (Some 2) e → drain_items G d ≡ 2 ∷ drain_items G e
  example-DrainSteps h = h.0

  pub example-DrainStepsBack : DrainStepsBack G d (Some 3) e → drain_items G d ≡ drain_items G e ++ 3 ∷ []
  example-DrainStepsBack h = h.0

  pub example-DrainsFromEnds : DrainsFromEnds G d → RunsWord (DrainSteps G) (DrainStepsBack G) d (front ∷ back ∷ []) (Some 2 ∷ Some 3 ∷ []) e → TakesFromEnds (drain_items G d) (front ∷ back ∷ []) (Some 2 ∷ Some 3 ∷ []) (drain_items G e)
  example-DrainsFromEnds h asked = (h _ _ _ asked).0

  pub example-DrainBegins : (old : MutBor V) (After : V → Type 0) → DrainBegins G old (2 ∷ 3 ∷ []) (1 ∷ 4 ∷ []) After d → drain_items G d ≡ 2 ∷ 3 ∷ []
  example-DrainBegins old After h = h.rest
