-- What is left of an iterator that was asked for items.
use Rattle.std.specs.Prelude.{◌≡◌, ℕ, ◌+◌, ◌≤◌, List, ◌∷◌, ◌++◌, length, Option, Some, Result, IsOk, MatchResult, OnOk, OnErr}
use Rattle.std.specs.Iterator.{Drains, YieldsThen}
use Rattle.std.specs.declared.iter.Iterator as Iterator
use Rattle.tinyvec_slots.specs.Filling.{ShowsItems, IntoIterYields}
pub use Rattle.tinyvec_slots.specs.Filling.{Follows}
use Rattle.tinyvec_slots.specs.declared.no_room.NoRoom.{NoRoom}

-- A call that had room for a list of n items took `old` to `new` by items that s yielded: by all of them, or up to the first that
-- found no room.
pub record FillsRoom {S T X : Type 0} (g : Iterator.Ghosts S T) (s : S) (n : ℕ) (r : Result X (NoRoom T S)) (old new : List T) : Type 0 where
  pub ran : (xs : List T) × MatchResult r (λ _. Drains g.next_gives s xs)
      (λ refused. YieldsThen g.next_gives s xs (Some refused.item) refused.rest) × (new ≡ old ++ xs)
  pub full : OnErr r (length new ≡ n)
  pub goes_on : Follows g.can_next g.remaining s (length old) (length new) r

-- A call pushed items of `iter` to the list `old`, in room for n items or in what it allocated. It returned r: it failed at the first
-- item that found no room.
module _ {U S T R : Type 0} (becomes : U → S → Type 0) (steps : S → Option T → S → Type 0) (iter : U) (n : ℕ) (r : Result R (NoRoom T S)) (old new : List T) where
  -- `listed` is for an iterator of which `rest` shows the remaining items. `known` is for items that are known, as those of a `Vec`, a
  -- range or a slice. If they fit, it allocates nothing.
  pub record PushesItems : Type 0 where
    pub ran : (it : S) × (xs : List T) × becomes iter it × MatchResult r (λ _. Drains steps it xs)
        (λ refused. YieldsThen steps it xs (Some refused.item) refused.rest) × (new ≡ old ++ xs)
    pub listed : (rest : S → List T) → ShowsItems steps rest → (it : S) × (xs : List T) × becomes iter it
        × MatchResult r (λ _. rest it ≡ xs) (λ refused. rest it ≡ xs ++ refused.item ∷ rest refused.rest) × (new ≡ old ++ xs)
    pub known : (xs : List T) → IntoIterYields becomes steps iter xs
        → OnOk r (new ≡ old ++ xs) × (length old + length xs ≤ n → IsOk r × (new ≡ old ++ xs))
