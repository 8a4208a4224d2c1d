-- Lemmas on items asked of an iterator by loops, one of which goes on where the other ended.
use Rattle.std.proofs.Common.{◌≡◌, ℕ, ◌+◌, ◌≤◌, List, [], ◌∷◌, ◌++◌, Option, Some, None, Result, Ok, Err, length, length-append, append_assoc, refl, sym, ap, subst, ◌∙◌, arith}
use Rattle.std.specs.Prelude.{MatchResult, IsOk, IfErr, OnOk, OnErr}
use Rattle.std.specs.declared.iter.Iterator as Iterator
use Rattle.std.specs.Iterator.{Count, size, Yields, YieldsThen, Drains, AlwaysYields}
use Rattle.tinyvec_slots.specs.Filling.{ShowsItems}
use Rattle.tinyvec_slots.specs.declared.no_room.NoRoom.{NoRoom}
use Rattle.tinyvec.specs.Following.{Follows, FillsRoom}
use Rattle.tinyvec_slots.proofs.FillingLemmas.{drained, refused, drained_all, refused_early}

module _ {S A : Type 0} (steps : S → Option A → S → Type 0) where
  -- calls that gave xs, and then calls that gave ys and r
  pub yields_then : (s : S) (xs : List A) (t : S) (ys : List A) (r : Option A) (u : S) → Yields steps s xs t
      → YieldsThen steps t ys r u → YieldsThen steps s (xs ++ ys) r u
  yields_then s [] t ys r u run more = subst (λ z. YieldsThen steps z ys r u) (sym run) more
  yields_then s (x ∷ xs) t ys r u run more =
      let rest = yields_then run.0 xs t ys r u run.2 more in
      (rest.0, (run.0, run.1, rest.1), rest.2)

  -- An answer tells that all items came, or which one found no room, and what follows it.
  module _ {X E : Type 0} (item : E → A) (back : E → S) where
    -- of an iterator whose items `rest` shows
    pub told_listed : (r : Result X E) (rest : S → List A) → ShowsItems steps rest → (s : S) (xs : List A)
        → MatchResult r (λ _. Drains steps s xs) (λ e. YieldsThen steps s xs (Some (item e)) (back e))
        → MatchResult r (λ _. rest s ≡ xs) (λ e. rest s ≡ xs ++ item e ∷ rest (back e))
    told_listed (Ok _) rest shows s xs ran = drained steps rest shows s xs ran.0 ran.1
    told_listed (Err e) rest shows s xs ran = refused steps rest shows s xs (item e) (back e) ran

    -- of items that are known: all are appended, and where there was room for them none is refused
    pub told_known : (r : Result X E) (all : List A) (s : S) → AlwaysYields steps (λ x. x) s all → (xs old new : List A) (room most : ℕ)
        → MatchResult r (λ _. Drains steps s xs) (λ e. YieldsThen steps s xs (Some (item e)) (back e)) → new ≡ old ++ xs
        → room ≤ most → OnErr r (length new ≡ most)
        → OnOk r (new ≡ old ++ all) × (length old + length all ≤ room → IsOk r × (new ≡ old ++ all))
    told_known (Ok _) all s yields xs old new room most ran is le full =
        let listed = is ∙ ap (λ ys. old ++ ys) (drained_all steps all s yields xs ran.0 ran.1) in
        (listed, λ _. (refl, listed))
    told_known (Err e) all s yields xs old new room most ran is le full =
        let fewer = refused_early steps all s yields xs (back e) (item e) ran in
        let long = ap length is ∙ length-append old xs in
        (tt, λ fits. absurd (omega (arith, fewer, long, full, le, fits)))

-- a call that filled room leaves no fewer items
pub no_fewer : {S A X : Type 0} {g : Iterator.Ghosts S A} {s : S} {n : ℕ} {r : Result X (NoRoom A S)} (old new : List A) → FillsRoom g s n r old new → length old ≤ length new
no_fewer old new h = omega (arith, ap length h.ran.2, length-append old h.ran.0)

-- calls that yielded `placed`, and then one that filled room
pub runs_on : {S A X : Type 0} (g : Iterator.Ghosts S A) (s t : S) (n : ℕ) (r : Result X (NoRoom A S)) (old mid new placed : List A) → Yields g.next_gives s placed t → mid ≡ old ++ placed
    → length mid + size (g.remaining t) ≤ length old + size (g.remaining s) → FillsRoom g t n r mid new → FillsRoom g s n r old new
runs_on g s t n (Ok _) old mid new placed yielded is fewer run =
    let ran = run.ran in record {
      ran = (placed ++ ran.0, (ran.1.0, yields_then g.next_gives s placed t ran.0 None ran.1.0 yielded ran.1.1), rw (ran.2, is, append_assoc) refl);
      full = tt;
      goes_on = omega (arith, run.goes_on, fewer);
    }
runs_on g s t n (Err e) old mid new placed yielded is fewer run =
    let ran = run.ran in record {
      ran = (placed ++ ran.0, yields_then g.next_gives s placed t ran.0 (Some e.item) e.rest yielded ran.1, rw (ran.2, is, append_assoc) refl);
      full = run.full;
      goes_on = (run.goes_on.0, run.goes_on.1, omega (arith, run.goes_on.2, fewer));
    }

-- what it returns can be iterated further
pub can_go_on : {S A X : Type 0} (can : S → Type 0) (left : S → Count) (s : S) (old new : ℕ) (r : Result X (NoRoom A S))
    → Follows can left s old new r → IfErr r (λ refused. can refused.rest)
can_go_on can left s old new (Ok _) h = tt
can_go_on can left s old new (Err e) h = h.0
