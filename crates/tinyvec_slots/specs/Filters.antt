-- What calls that keep some items say: a question about two items, and what becomes of the list.
use Rattle.std.specs.Prelude.{◌≡◌, ◌≤◌, ℕ, Bool, List, [], ◌∷◌, cond, length, MatchBool, slice_index_or, slice_set}
use Rattle.std.specs.List.{items_where_true}
use Rattle.std.specs.List.Retain.{ReturnsInTurn}

-- R was shown the items of xs at current and at last, was in the state s, answered with b, and is now in the state t.
-- ys is xs with both items as R left them.
pub record AsksPair {S X : Type 0} (R : S → X → X → Bool → S → X → X → Type 0) (s : S) (xs : List X) (current last : ℕ) (b : Bool) (t : S) (ys : List X) : Type 0 where
  pub shown : X
  pub beside : X
  pub shows : (shown ≡ slice_index_or xs current shown) × (beside ≡ slice_index_or xs last beside)
  pub left : X
  pub left_beside : X
  pub asked : R s shown beside b t left left_beside
  pub after : ys ≡ slice_set (slice_set xs current left) last left_beside

-- The list is no longer than it was and fits where it is, and its tail was cut off, as a list that can be cut says by T.
pub record Shortened {V X : Type 0} (items : V → List X) (room : V → ℕ) (T : V → V → Type 0) (old new : V) : Type 0 where
  pub bound : length (items new) ≤ length (items old)
  pub fits : length (items new) ≤ room new
  pub cut : T old new

-- R was asked about each item once, in turn, from the state s to `last`, and ys has those for which it answered `true`, as it left them:
-- `RetainsInTurn`, with the last state
abbrev pub RetainsTo : {S X : Type 0} → (S → X → Bool → S → X → Type 0) → S → List X → List X → S → Type 0
RetainsTo R s [] ys last = (ys ≡ []) × (last ≡ s)
RetainsTo {S} {X} R s (x ∷ xs) ys last = (b : Bool) × (t : S) × (y : X) × R s x b t y × (zs : List X) × RetainsTo R t xs zs last × (ys ≡ cond b (y ∷ zs) zs)

-- R was asked about each item of xs once, in turn, from the state s to `last`, and ys has those for which it answered `true`: `IsFiltered`,
-- with the last state
abbrev pub IsFilteredTo : {S X : Type 0} → (S → X → Bool → S → Type 0) → S → List X → List X → S → Type 0
IsFilteredTo R s xs ys last = (bs : List Bool) × (length bs ≡ length xs) × ReturnsInTurn R s bs xs last × (ys ≡ items_where_true bs xs)

module _ {S X : Type 0} (R : S → X → X → Bool → S → X → X → Type 0) where
  -- `DedupsFrom`, with the last state
  abbrev pub DedupsFromTo : S → X → List X → List X → S → Type 0
  DedupsFromTo s k [] ys last = (ys ≡ k ∷ []) × (last ≡ s)
  DedupsFromTo s k (x ∷ xs) ys last = (b : Bool) × (t : S) × (x' : X) × (k' : X) × R s x k b t x' k'
      × MatchBool b (DedupsFromTo t k' xs ys last) ((zs : List X) × DedupsFromTo t x' xs zs last × (ys ≡ k' ∷ zs))

  -- the same of a whole list, whose first item is kept
  abbrev pub DedupsAllTo : S → List X → List X → S → Type 0
  DedupsAllTo s [] ys last = (ys ≡ []) × (last ≡ s)
  DedupsAllTo s (x ∷ xs) ys last = DedupsFromTo s x xs ys last

  -- R was asked about each item of xs after the first once, in turn, from the state s to `last`, and ys is what `dedup_by` leaves of xs:
  -- `IsDeduped`, with the last state
  pub record IsDedupedTo (s : S) (xs ys : List X) (last : S) : Type 0 where
    pub deduped : DedupsAllTo s xs ys last
