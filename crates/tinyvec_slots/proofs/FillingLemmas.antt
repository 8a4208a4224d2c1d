-- Lemmas on items that are placed one by one.
use Rattle.std.proofs.Common.{◌≡◌, ℕ, ◌+◌, ◌<◌, ◌≤◌, List, ◌∷◌, ◌++◌, [], Option, Some, None, length, take, drop, set, inl, inr, true≢false, refl, sym, ap, subst, ◌∙◌, arith, length-drop, length-append, drop-set-lt, append-nil, take_at, map, map-id}
use Rattle.std.proofs.lemmas.Bool.{cases_lt}
use Rattle.std.proofs.lemmas.Grind.{drop_more_same}
use Rattle.std.proofs.lemmas.List.{drop_at, drop_all, take_all}
use Rattle.std.proofs.iter.Yields.{gives_left, gives_Drains}
use Rattle.std.specs.Iterator.{Yields, YieldsThen, AlwaysYields}
use Rattle.std.specs.Prelude.{Ok, Err}
use Rattle.tinyvec_slots.specs.Filling.{YieldsUpTo, ShowsItems, Fills, Extends}

-- a list that is left from i on as it was: what lies behind i stays so
pub rest_after_one : {X : Type 0} (from first : List X) (i : ℕ) (d : X) → drop i from ≡ drop i first → drop (i + 1) (set from i d) ≡ drop (i + 1) first
rest_after_one from first i d rest = drop-set-lt (i + 1) from i d (omega arith) ∙ drop_more_same from first i rest

-- of an iterator whose items `rest` shows
module _ {S A : Type 0} (steps : S → Option A → S → Type 0) (rest : S → List A) (shows : ShowsItems steps rest) where
  pub yielded : (s : S) (xs : List A) (u : S) → Yields steps s xs u → rest s ≡ xs ++ rest u
  yielded s [] u run = ap rest run
  yielded s (x ∷ xs) u run = shows s (Some x) run.0 run.1 ∙ ap (λ l. x ∷ l) (yielded run.0 xs u run.2)

  pub drained : (s : S) (xs : List A) (u : S) → YieldsThen steps s xs None u → rest s ≡ xs
  drained s xs u run =
      yielded s xs run.0 run.1 ∙ rw ((shows run.0 None u run.2).0, append-nil)

  pub refused : (s : S) (xs : List A) (x : A) (u : S) → YieldsThen steps s xs (Some x) u → rest s ≡ xs ++ x ∷ rest u
  refused s xs x u run = yielded s xs run.0 run.1 ∙ ap (λ l. xs ++ l) (shows run.0 (Some x) u run.2)

  -- what `YieldsUpTo` placed, and what it left
  pub filled : (n : ℕ) (s : S) (xs : List A) (u : S) → YieldsUpTo steps n s xs u
      → (xs ≡ take n (rest s)) × (rest u ≡ drop n (rest s))
  filled n s xs u run =
      elim (cases_lt (length xs) n) [
        | inl less ↦
            let all = drained s xs u (run.ended less) in
            rw (all, take_all n xs (omega arith), drop_all n xs (omega arith)) (refl, (shows _ None u (run.ended less).2).1)
        | inr more ↦
            let full : length xs ≡ n = omega (arith, more, run.at_most_n) in
            rw (yielded s xs u (run.stopped full), take_at xs (rest u) n full, drop_at xs (rest u) n full) (refl, refl)
      ]

-- whether something lies behind the first n
module _ {X : Type 0} (n : ℕ) (xs : List X) where
  pub longer : (x : X) (ys : List X) → drop n xs ≡ x ∷ ys → n < length xs
  longer x ys e = omega (arith, ap length e, length-drop n xs)

  pub no_longer : drop n xs ≡ [] → length xs ≤ n
  no_longer e = omega (arith, ap length e, length-drop n xs)

-- of an iterator each of whose runs gives the same list
module _ {S A : Type 0} (steps : S → Option A → S → Type 0) (all : List A) (s : S) (yields : AlwaysYields steps (λ x. x) s all) (xs : List A) (u : S) where
  -- what came before `None` is the list
  pub drained_all : YieldsThen steps s xs None u → xs ≡ all
  drained_all run = sym (map-id xs) ∙ gives_Drains steps (λ x. x) xs all s yields (u, run)

  more_left : (t : S) (x : A) (more : List A) → AlwaysYields steps (λ x. x) t more → steps t (Some x) u → 0 < length more
  more_left t x [] left step = absurd (left x u step)
  more_left t x (y ∷ more) left step = omega arith

  -- and before an item came fewer
  pub refused_early : (x : A) → YieldsThen steps s xs (Some x) u → length xs < length all
  refused_early x run =
      let left = gives_left steps (λ x. x) xs all s run.0 yields run.1 in
      let some = more_left run.0 x left.0 left.2 run.2 in
      let long = ap length left.1 ∙ length-append (map (λ x. x) xs) left.0 in
      omega (arith, some, long, ap length (map-id xs))

-- A call that appended xs, of which what it says of an iterator that shows its items, or whose items are known, follows.
module _ {U S A : Type 0} (becomes : U → S → Type 0) (steps : S → Option A → S → Type 0) (iter : U) (n : ℕ) (Adds : List A → Type 0)
    (it : S) (xs : List A) (begun : becomes iter it) (adds : Adds xs) (u : S) where
  pub fills_by : YieldsUpTo steps n it xs u → Fills becomes steps iter n Adds u
  fills_by run = record {
    ran = (it, xs, begun, run, adds);
    listed = λ rest shows. let parts = filled steps rest shows n it xs u run in (it, begun, subst Adds parts.0 adds, parts.1);
  }

  pub extends_all : {R : Type 0} (r : R) → length xs ≤ n → YieldsThen steps it xs None u → Extends becomes steps iter n Adds (Ok r)
  extends_all r fits run = record {
    ran = (it, xs, begun, (u, run), adds);
    listed = λ rest shows.
        let all = drained steps rest shows it xs u run in
        let le : length (rest it) ≤ n = omega (arith, ap length all, fits) in
        (it, begun, (λ _. le, λ _. refl), subst Adds (sym all ∙ sym (take_all n (rest it) le)) adds, tt);
    known = λ ys yields le. (refl, subst Adds (drained_all steps ys it (yields it begun) xs u run) adds);
  }

  pub extends_full : {R : Type 0} (x : A) → length xs ≡ n → YieldsThen steps it xs (Some x) u
      → Extends becomes steps iter n Adds {R = R} (Err (record { item = x; rest = u }))
  extends_full x full run = record {
    ran = (it, xs, begun, run, adds);
    listed = λ rest shows.
        let all = refused steps rest shows it xs x u run in
        let head : xs ≡ take n (rest it) = sym (take_at xs (x ∷ rest u) n full) ∙ ap (take n) (sym all) in
        let tail : drop n (rest it) ≡ x ∷ rest u = ap (drop n) all ∙ drop_at xs (x ∷ rest u) n full in
        (it, begun, (λ e. absurd (true≢false (sym e)), λ le. absurd (omega (arith, longer n (rest it) x (rest u) tail, le))), subst Adds head adds, tail);
    known = λ ys yields le. absurd (omega (arith, refused_early steps ys it (yields it begun) xs u x run, le, full));
  }
