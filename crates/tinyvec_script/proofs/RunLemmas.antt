-- Runs, one call longer, and the calls that are left.
use Rattle.std.proofs.Common.{◌≡◌, ◌<◌, List, [], ◌∷◌, ◌++◌, length, Option, None, Some, refl, sym, ap, ◌∙◌, subst}
use Rattle.std.proofs.lemmas.List.{map-id}
use Rattle.std.proofs.lemmas.Iterator.Adapters.{YieldsList-from_vec}
use Rattle.std.proofs.lemmas.Iterator.Consumers.{YieldsList-turn, YieldsList-end}
use Rattle.std.specs.Iterator.{Yields}
use Rattle.std.specs.Vec.Iter.{into_iter_items, into_iter_len, into_iter_steps}
use Rattle.std.specs.declared.vec.IntoIter.{IntoIter}
use Rattle.tinyvec_script.specs.declared.call.Call.{Call}
use Rattle.tinyvec_script.specs.declared.call.Answer.{Answer}
use Rattle.tinyvec_script.specs.Step.{Run}

module _ {V T : Type 0} (Step : V → Call T → Answer T → V → Type 0) where
  pub Run-more : (old mid new : V) (calls : List (Call T)) (answers : List (Answer T)) (call : Call T) (answer : Answer T)
      → Run Step old calls answers mid → Step mid call answer new → Run Step old (calls ++ call ∷ []) (answers ++ answer ∷ []) new
  Run-more old mid new [] [] call answer run step = (new, subst (λ m. Step m call answer new) run step, refl)
  Run-more old mid new [] (a ∷ more) call answer run step = absurd run
  Run-more old mid new (c ∷ calls) [] call answer run step = absurd run
  Run-more old mid new (c ∷ calls) (a ∷ more) call answer run step = (run.0, run.1, Run-more run.0 mid new calls more call answer run.2 step)

module _ {V W T : Type 0} (S : V → Call T → Answer T → V → Type 0) (Step : W → Call T → Answer T → W → Type 0) (view : V → W)
    (seen : (old new : V) (call : Call T) (answer : Answer T) → S old call answer new → Step (view old) call answer (view new)) where
  -- a run is one of what is seen, if each step is
  pub Run-seen : (old new : V) (calls : List (Call T)) (answers : List (Answer T)) → Run S old calls answers new → Run Step (view old) calls answers (view new)
  Run-seen old new [] [] run = ap view run
  Run-seen old new [] (a ∷ more) run = absurd run
  Run-seen old new (c ∷ calls) [] run = absurd run
  Run-seen old new (c ∷ calls) (a ∷ more) run = (view run.0, seen old run.0 c a run.1, Run-seen run.0 new calls more run.2)

module _ {V N T : Type 0} (S : V → Call T → Answer T → V → Type 0) (name : V → N)
    (keeps : (old new : V) (call : Call T) (answer : Answer T) → S old call answer new → name new ≡ name old) where
  -- a run keeps what each step keeps
  pub Run-kept : (old new : V) (calls : List (Call T)) (answers : List (Answer T)) → Run S old calls answers new → name new ≡ name old
  Run-kept old new [] [] run = ap name run
  Run-kept old new [] (a ∷ more) run = absurd run
  Run-kept old new (c ∷ calls) [] run = absurd run
  Run-kept old new (c ∷ calls) (a ∷ more) run = Run-kept run.0 new calls more run.2 ∙ keeps old run.0 c a run.1

-- calls that are taken out of a vector, so many of which were made
module _ {C Z : Type 0} (s : IntoIter C Z) (calls : List C) (gives : into_iter_items s ≡ calls)
    (counts : into_iter_len s ≡ length calls) (made : List C) (t : IntoIter C Z) (so_far : Yields into_iter_steps s made t) where
  -- there is one more
  pub call_left : (r : Option C) (u : IntoIter C Z) (call : C) → r ≡ Some call → into_iter_steps t r u → length made < length calls
  call_left r u call is steps = (YieldsList-turn (YieldsList-from_vec {s = s} calls gives counts) made t so_far r u call is steps).0

  -- there is none
  pub none_left : (r : Option C) (u : IntoIter C Z) → r ≡ None → into_iter_steps t r u → made ≡ calls
  none_left r u is steps = sym (map-id made) ∙ (YieldsList-end (YieldsList-from_vec {s = s} calls gives counts) made t so_far r u is steps).0
