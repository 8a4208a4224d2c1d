-- A splice that is driven by a word of ends, from the call to `finish`.
use Rattle.std.specs.Prelude.{◌≡◌, ℕ, ◌+◌, ◌-◌, ◌<◌, ◌≤◌, List, [], ◌∷◌, ◌++◌, length, map, take, drop, slice_range, Option, Bool, nat_lt, if◌then◌else◌, Result, Ok, Err}
use Rattle.std.specs.declared.ops.Bound.TheVariants.{Included, Excluded}
use Rattle.tinyvec_slots.specs.Ranges.{IsRangeOf, items_before, items_within, items_after}
use Rattle.tinyvec_slots.specs.Ends.{front, back, GivenByWord, taken_items}
use Rattle.tinyvec_slots.specs.Ends as ends
use Rattle.tinyvec_slots.specs.SplicedByWord.{IsSpliceRefused, placed_back}
use Rattle.tinyvec_slots.specs.declared.no_room.NoRoom.{NoRoom}
use Rattle.tinyvec_script.specs.declared.call.Answer.{Answer}
use Rattle.tinyvec_script.specs.declared.call.Answer.TheVariants as answers
use Rattle.tinyvec_script.specs.declared.call.End.{End}
use Rattle.tinyvec_script.specs.declared.call.End.TheVariants.{Front, Back}

-- the letter that names an end
abbrev pub letter : End → ends.End
letter Front = front
letter Back = back

-- the word that names these ends one after another
abbrev pub word_of : List End → List ends.End
word_of = map letter

module _ {S T : Type 0} (gives gives_back : S → Option T → S → Type 0) where
  -- a call at that end took old to new
  abbrev pub TakesAt : End → S → Option T → S → Type 0
  TakesAt Front = gives
  TakesAt Back = gives_back

-- the item that found no room, and what gives the others
abbrev pub refused_items : {I T : Type 0} → (I → List T) → Result Unit (NoRoom T I) → List T
refused_items rest (Ok u) = []
refused_items rest (Err refused) = refused.item ∷ rest refused.rest

-- The items from start up to end were replaced, after a word of ends had taken yields from them. If not all of the
-- replacement fits, the list is full, and rest is the one run that was not placed.
pub record ListSplices {T : Type 0} (capacity : ℕ) (old : List T) (start end : ℕ) (word : List End)
    (replacement yields rest new : List T) : Type 0 where
  pub yields_are : GivenByWord (items_within old (Included start) (Excluded end)) (word_of word) yields
  pub placed : start + length replacement + (length old - end) ≤ capacity
      → (rest ≡ []) × (new ≡ items_before old (Included start) ++ replacement ++ items_after old (Excluded end))
  pub refused : capacity < start + length replacement + (length old - end)
      → IsSpliceRefused (word_of word) (end - start) (items_before old (Included start)) (items_after old (Excluded end))
      replacement new rest × (length new ≡ capacity)

-- A splice that is driven by the word took a vector from `old` to `new`, or one view of it to another: `items` shows the list, and
-- `Grown` says what became of all else. A list that has no room for the replacement got no shorter.
pub record DrivenSplices {V T : Type 0} (items : V → List T) (Grown : V → V → Type 0) (capacity : ℕ) (old : V) (start end : ℕ)
    (word : List End) (replacement yields rest : List T) (new : V) : Type 0 where
  pub list : ListSplices capacity (items old) start end word replacement yields rest (items new)
  pub grown : Grown old new
  pub no_shorter : capacity < start + length replacement + (length (items old) - end) → length (items old) ≤ length (items new)

-- How a splice of a range that is in a list of this length is answered: by what was taken, and by what found no room if
-- there is such. `Splices` is what it then did. A refused allocation is a case of its own.
abbrev pub SpliceAnswers : {T : Type 0} → ℕ → ℕ → ℕ → ℕ → List T → Type 0 → (List T → List T → Type 0) → Answer T → Type 0
SpliceAnswers capacity len start end replacement Same Splices answers.Memory = (start < end + length replacement) × Same
SpliceAnswers capacity len start end replacement Same Splices (answers.Items given) =
    (start + length replacement + (len - end) ≤ capacity) × Splices given.items []
SpliceAnswers capacity len start end replacement Same Splices (answers.Spliced given rest) =
    (capacity < start + length replacement + (len - end)) × Splices given.items rest.items
SpliceAnswers capacity len start end replacement Same Splices answer = ⊥

-- the items from start up to end are in the list
abbrev pub IsRange : {T : Type 0} → List T → ℕ → ℕ → Type 0
IsRange xs start end = IsRangeOf xs (Included start) (Excluded end)

-- the items from start up to end were taken out
pub record ListDrains {T : Type 0} (old : List T) (start end : ℕ) (given new : List T) : Type 0 where
  pub given_are : given ≡ items_within old (Included start) (Excluded end)
  pub items_are : new ≡ items_before old (Included start) ++ items_after old (Excluded end)

-- What a splice makes of a list, computed for given numbers and a given word.
module _ {T : Type 0} (capacity : ℕ) (xs : List T) (start end : ℕ) (word : List End) (replacement : List T) where
  -- the items that the word takes
  abbrev pub yields_of : List T
  yields_of = taken_items (word_of word) (items_within xs (Included start) (Excluded end))

  -- where the run that has no place begins in the replacement, if the list does not fit
  abbrev pub unplaced_from : ℕ
  unplaced_from = capacity - (start + placed_back (word_of word) (end - start) (length replacement) + (length xs - end))

  -- where that run ends
  abbrev pub unplaced_to : ℕ
  unplaced_to = length replacement - placed_back (word_of word) (end - start) (length replacement)

  -- whether the list does not fit
  abbrev pub overflows : Bool
  overflows = nat_lt capacity (start + length replacement + (length xs - end))

  -- what is not placed
  abbrev pub rest_of : List T
  rest_of = if overflows then slice_range replacement unplaced_from unplaced_to else []

  -- the list is full if the replacement does not fit
  abbrev pub list_of : List T
  list_of = if overflows
      then items_before xs (Included start) ++ take unplaced_from replacement ++ drop unplaced_to replacement
      ++ items_after xs (Excluded end)
      else items_before xs (Included start) ++ replacement ++ items_after xs (Excluded end)

  -- what the splice yielded, what it did not place, and the new list, as computed
  pub record SpliceComputes (yields rest list : List T) : Type 0 where
    pub yields_are : yields ≡ yields_of
    pub rest_is : rest ≡ rest_of
    pub list_is : list ≡ list_of
