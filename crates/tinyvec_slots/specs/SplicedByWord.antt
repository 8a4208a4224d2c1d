-- What a splice makes of a list, by the word of ends that items were taken from before `finish`.
use Rattle.std.specs.Prelude.{◌≡◌, ℕ, ◌+◌, ◌-◌, ◌<◌, ◌≤◌, min, List, ◌++◌, length, take, drop, slice_range}
use Rattle.tinyvec_slots.specs.Ends.{End, fronts, backs}
use Rattle.tinyvec_slots.specs.AnySplice.{SpliceView}

-- If a range of n items is replaced by m items, how many of them a word places from the front: a letter places an item as
-- long as there is one to take and one to place.
abbrev pub placed_front : List End → ℕ → ℕ → ℕ
placed_front word n m = fronts (take (min n m) word)

-- and from the back
abbrev pub placed_back : List End → ℕ → ℕ → ℕ
placed_back word n m = backs (take (min n m) word)

-- A range that held n items was to be replaced, and the replacement did not go in between `before` and `after` whole: its
-- first `at` items did, and those that a word placed from the back. `rest` is the run between them.
pub record IsSpliceRefused {T : Type 0} (word : List End) (n : ℕ) (before after replacement list rest : List T) : Type 0 where
  pub at : ℕ
  pub from : placed_front word n (length replacement) ≤ at
  pub below : at < length replacement - placed_back word n (length replacement)
  pub list_is : list ≡ before ++ take at replacement ++ drop (length replacement - placed_back word n (length replacement)) replacement ++ after
  pub rest_is : rest ≡ slice_range replacement at (length replacement - placed_back word n (length replacement))

-- However calls of `next` and `next_back` follow one another, by the letters of a word, what they placed is at its end.
-- `rest` shows what a replacement still yields, from both of its ends.
pub record SplicedByWord {S I T : Type 0} (view : S → SpliceView I T) (keeps : S → S → Type 0) (rest : I → List T)
    (s : S) (word : List End) (t : S) : Type 0 where
  pub in_front : List T
  pub at_back : List T
  pub front : (view t).front ≡ (view s).front ++ in_front
  pub back : (view t).back ≡ at_back ++ (view s).back
  pub replacement : rest (view s).replacement ≡ in_front ++ (rest (view t).replacement ++ at_back)
  pub front_count : length in_front ≡ placed_front word (length (view s).left) (length (rest (view s).replacement))
  pub back_count : length at_back ≡ placed_back word (length (view s).left) (length (rest (view s).replacement))
  -- one touch for each item that was given out, and one for each that was placed
  pub touches : (view t).touches + length (view t).left ≡ (view s).touches + length (view s).left + (length in_front + length at_back)
  pub kept : keeps s t
