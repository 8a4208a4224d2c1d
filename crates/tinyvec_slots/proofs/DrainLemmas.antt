-- What calls of `next` and `next_back` give, for a drain, and what they leave as it was.
use Rattle.std.proofs.Common.{◌≡◌, ℕ, List, Option, Some, None, [], ◌∷◌, length, refl, sym, ap, subst, ◌∙◌}
use Rattle.std.specs.Borrow.{MutBor}
use Rattle.std.specs.Iterator.{YieldsFirst, YieldsLast, SkipsThenYields, Yields}
use Rattle.std.specs.Iterator.Runs.{YieldsInOrder, YieldsInReverse}
use Rattle.std.proofs.iter.runs.Sources.{from_front, from_back, as_is, as_is_back}
use Rattle.tinyvec_slots.specs.Ends.{End, front, back, RunsWord}
use Rattle.tinyvec_slots.specs.Drain.{drain_items, DrainSteps, DrainStepsBack, DrainKeeps, DrainsFromEnds, DrainBegins}
use Rattle.tinyvec_slots.specs.declared.can_drain.CanDrain as CanDrain
use Rattle.tinyvec_slots.specs.declared.drain.Drain.{Drain}
use Rattle.tinyvec_slots.proofs.EndsLemmas.{RunsWord-takes}

module _ {V T : Type 0} (g : CanDrain.Ghosts V T) where
  pub drain_runs : YieldsInOrder (DrainSteps g) (drain_items g)
  drain_runs p s = as_is p (drain_items g p.from) (from_front (DrainSteps g) (λ x. x) (drain_items g) (λ s t h. ap length h.0.0) (λ s x t h. h.0) p s)

  pub drain_runs_back : YieldsInReverse (DrainStepsBack g) (drain_items g)
  drain_runs_back p s = as_is_back p (drain_items g p.from) (from_back (DrainStepsBack g) (λ x. x) (drain_items g) (λ s t h. ap length h.0.0) (λ s x t h. h.0) p s)

  step_first : (d : Drain V T) (r : Option T) (e : Drain V T) → DrainSteps g d r e → YieldsFirst (drain_items g) d r e
  step_first d (Some x) e h = h.0
  step_first d None e h = (h.0.0, ap (drain_items g) h.0.1 ∙ h.0.0)

  step_last : (d : Drain V T) (r : Option T) (e : Drain V T) → DrainStepsBack g d r e → YieldsLast (drain_items g) d r e
  step_last d (Some x) e h = h.0
  step_last d None e h = (h.0.0, ap (drain_items g) h.0.1 ∙ h.0.0)

  pub DrainKeeps-then : ((u v w : V) → g.Kept u v → g.Kept v w → g.Kept u w) → (d e f : Drain V T) → DrainKeeps g d e → DrainKeeps g e f → DrainKeeps g d f
  DrainKeeps-then kept_then d e f h k = record {
    same_reference = k.same_reference ∙ h.same_reference;
    others = k.others ∙ h.others;
    kept = kept_then d.vec.now e.vec.now f.vec.now h.kept k.kept;
    ready = λ can. k.ready (h.ready can);
    leaves = λ v left. h.leaves v (k.leaves v left);
  }

  pub DrainKeeps-refl : ((v : V) → g.Kept v v) → (d : Drain V T) → DrainKeeps g d d
  DrainKeeps-refl kept_same d = record { same_reference = refl; others = refl; kept = kept_same d.vec.now; ready = λ can. can; leaves = λ v left. left }

  -- a drain of what is the same, once its end leaves at least as much
  pub begins_as : (v w : MutBor V) (xs ys others behind : List T) (After Later : V → Type 0) (d : Drain V T) → DrainBegins g v xs others After d
      → v.ghost_name ≡ w.ghost_name → xs ≡ ys → others ≡ behind → ((u : V) → After u → Later u) → DrainBegins g w ys behind Later d
  begins_as v w xs ys others behind After Later d b reference items same later = record {
    rest = b.rest ∙ items;
    len = b.len;
    others_are = b.others_are ∙ same;
    ready = b.ready;
    runs = b.runs;
    runs_back = b.runs_back;
    both_ends = b.both_ends;
    same_reference = b.same_reference ∙ reference;
    leaves = λ u left. later u (b.leaves u left);
  }

-- of a vector whose takes keep what they keep together
module _ {V T : Type 0} (g : CanDrain.Ghosts V T) (kept_same : (v : V) → g.Kept v v) (kept_then : (u v w : V) → g.Kept u v → g.Kept v w → g.Kept u w) where
  -- no run of `next` changes what the drain keeps
  pub yields-keeps : (d : Drain V T) (items : List T) (later : Drain V T) → Yields (DrainSteps g) d items later → DrainKeeps g d later
  yields-keeps d [] later y = subst (DrainKeeps g d) y (DrainKeeps-refl g kept_same d)
  yields-keeps d (x ∷ xs) later y = DrainKeeps-then g kept_then d y.0 later y.1.1 (yields-keeps y.0 xs later y.2)

  -- nor does `nth`
  pub nth-keeps : (d : Drain V T) (n : ℕ) (r : Option T) (e : Drain V T) → SkipsThenYields (DrainSteps g) d n r e → DrainKeeps g d e
  nth-keeps d n r e h = DrainKeeps-then g kept_then d h.1.0 e (yields-keeps d h.0 h.1.0 h.1.1) h.1.2.1

  -- nor does a word of ends
  word-keeps : (d : Drain V T) (word : List End) (answers : List (Option T)) (later : Drain V T) → RunsWord (DrainSteps g) (DrainStepsBack g) d word answers later → DrainKeeps g d later
  word-keeps d [] [] later is = subst (DrainKeeps g d) (sym is) (DrainKeeps-refl g kept_same d)
  word-keeps d [] (r ∷ answers) later asks = absurd asks
  word-keeps d (e ∷ word) [] later asks = absurd asks
  word-keeps d (front ∷ word) (r ∷ answers) later asks = DrainKeeps-then g kept_then d asks.0 later asks.1.1 (word-keeps asks.0 word answers later asks.2)
  word-keeps d (back ∷ word) (r ∷ answers) later asks = DrainKeeps-then g kept_then d asks.0 later asks.1.1 (word-keeps asks.0 word answers later asks.2)

  pub drains_from_ends : (d : Drain V T) → DrainsFromEnds g d
  drains_from_ends d word answers later asks =
      (RunsWord-takes (DrainSteps g) (DrainStepsBack g) (drain_items g) (step_first g) (step_last g) d word answers later asks, word-keeps d word answers later asks)
