-- Items asked of a closure, or of an iterator as long as there is room, and what the iterators of a list yield.
use Rattle.std.specs.Prelude.{◌≡◌, ℕ, ◌+◌, ◌^◌, ◌<◌, ◌≤◌, ◌↔◌, List, ◌∷◌, ◌++◌, length, take, drop, Option, Some, None, Result, IsOk, IfOk, IfErr, MatchResult}
use Rattle.std.specs.List.{FoldsTo}
use Rattle.std.specs.Iterator.{Yields, YieldsThen, YieldsFirst, AlwaysYields, Drains, Count, IsFinite, size}
use Rattle.std.specs.Iterator.Adapters.{IterYieldsInOrder, IterYieldsInReverse, IterMutYieldsInOrder, IterMutYieldsInReverse}
use Rattle.std.specs.Slice.Iter.{iter_rest, iter_mut_rest}
use Rattle.std.specs.declared.slice.Iter.{Iter}
use Rattle.std.specs.declared.slice.IterMut.{IterMut}
use Rattle.tinyvec_slots.specs.declared.no_room.NoRoom.{NoRoom}
use Rattle.tinyvec_slots.specs.declared.no_room.FromIterRest.{FromIterRest}

-- Calls of `next` from s yielded xs and left u. They stopped at n items, or at `None` if fewer came.
pub record YieldsUpTo {S A : Type 0} (steps : S → Option A → S → Type 0) (n : ℕ) (s : S) (xs : List A) (u : S) : Type 0 where
  pub at_most_n : length xs ≤ n
  pub stopped : length xs ≡ n → Yields steps s xs u
  pub ended : length xs < n → YieldsThen steps s xs None u

-- `rest` shows the items that an iterator still yields, in order
abbrev pub ShowsItems : {S A : Type 0} → (S → Option A → S → Type 0) → (S → List A) → Type 0
ShowsItems {S} {A} steps rest = (s : S) (r : Option A) (t : S) → steps s r t → YieldsFirst rest s r t

-- every iterator that `into_iter` makes of `iter` yields xs, and then `None`. `YieldsList` of std's lemmas proves it of a
-- range, a slice's items, a map and more.
abbrev pub IntoIterYields : {U S A : Type 0} → (U → S → Type 0) → (S → Option A → S → Type 0) → U → List A → Type 0
IntoIterYields {U} {S} becomes steps iter xs = (it : S) → becomes iter it → AlwaysYields steps (λ x. x) it xs

-- A call that had room for n items asked `iter` for them, and appended those that came, if `Adds xs` says that it appended xs.
module _ {U S A : Type 0} (becomes : U → S → Type 0) (steps : S → Option A → S → Type 0) (iter : U) (n : ℕ) (Adds : List A → Type 0) where
  -- It returned the rest of the iterator. `listed` is for one of which `rest` shows the remaining items.
  pub record Fills (left : S) : Type 0 where
    pub ran : (it : S) × (xs : List A) × becomes iter it × YieldsUpTo steps n it xs left × Adds xs
    pub listed : (rest : S → List A) → ShowsItems steps rest
        → (it : S) × becomes iter it × Adds (take n (rest it)) × (rest left ≡ drop n (rest it))

  -- It failed if more came. `known` is for items that are known, as those of a `Vec`, a range or a slice, and that fit.
  pub record Extends {R : Type 0} (r : Result R (NoRoom A S)) : Type 0 where
    pub ran : (it : S) × (xs : List A) × becomes iter it
        × MatchResult r (λ _. Drains steps it xs) (λ refused. YieldsThen steps it xs (Some refused.item) refused.rest) × Adds xs
    pub listed : (rest : S → List A) → ShowsItems steps rest
        → (it : S) × becomes iter it × (IsOk r ↔ (length (rest it) ≤ n)) × Adds (take n (rest it))
        × IfErr r (λ refused. drop n (rest it) ≡ refused.item ∷ rest refused.rest)
    pub known : (xs : List A) → IntoIterYields becomes steps iter xs → length xs ≤ n → IsOk r × Adds xs

-- A list got from `old` items to `new` by those that s yielded: no more than s may yield. If there was no room for one, the
-- rest can be iterated further, and may yield only what is left of that number.
abbrev pub Follows : {S T X : Type 0} → (S → Type 0) → (S → Count) → S → ℕ → ℕ → Result X (NoRoom T S) → Type 0
Follows can left s old new r = MatchResult r (λ _. new ≤ old + size (left s))
    (λ refused. can refused.rest × IsFinite (left refused.rest) × (new + size (left refused.rest) < old + size (left s)))

-- A call made a vector of the items of `iter`, of which n fit, and returned it if no more came, else with the rest of the iterator.
-- `Lists v xs` says that xs is the list of v.
module _ {U S A V : Type 0} (becomes : U → S → Type 0) (steps : S → Option A → S → Type 0) (iter : U) (n : ℕ) (Lists : V → List A → Type 0) where
  -- `listed` is for an iterator of which `rest` shows the remaining items, `known` for items that are known, and that fit.
  pub record Collects (r : Result V (FromIterRest V A S)) : Type 0 where
    pub ran : (it : S) × (xs : List A) × becomes iter it
        × MatchResult r (λ v. Drains steps it xs × Lists v xs)
        (λ refused. YieldsThen steps it xs (Some refused.item) refused.rest × Lists refused.vec xs)
    pub listed : (rest : S → List A) → ShowsItems steps rest
        → (it : S) × becomes iter it × (IsOk r ↔ (length (rest it) ≤ n))
        × MatchResult r (λ v. Lists v (rest it))
        (λ refused. Lists refused.vec (take n (rest it)) × (drop n (rest it) ≡ refused.item ∷ rest refused.rest))
    pub known : (xs : List A) → IntoIterYields becomes steps iter xs → length xs ≤ n → IsOk r × IfOk r (λ v. Lists v xs)

-- The list grew from old to new by an item for each of some calls of f, in their order, which left f as `last`: `AppendsResults`,
-- with the last state.
abbrev pub AppendsResultsTo : {F X : Type 0} → (F → X → F → Type 0) → List X → List X → F → F → Type 0
AppendsResultsTo {F} {X} step old new f last = (ys : List X) × (new ≡ old ++ ys) × FoldsTo step f ys last

-- the items that an iterator has left are xs, whose number fits a `usize`, and each run yields them, in order or in reverse
pub record Iterates {T : Type 0} (xs : List T) (it : Iter T) : Type 0 where
  pub rest : iter_rest it ≡ xs
  pub len : length (iter_rest it) ≡ length xs
  pub bound : length (iter_rest it) < 2 ^ 64
  pub runs : IterYieldsInOrder T
  pub runs_back : IterYieldsInReverse T

-- the same of an iterator for writing
pub record IteratesMut {T : Type 0} (xs : List T) (it : IterMut T) : Type 0 where
  pub rest : iter_mut_rest it ≡ xs
  pub len : length (iter_mut_rest it) ≡ length xs
  pub bound : length (iter_mut_rest it) < 2 ^ 64
  pub runs : IterMutYieldsInOrder T
  pub runs_back : IterMutYieldsInReverse T
