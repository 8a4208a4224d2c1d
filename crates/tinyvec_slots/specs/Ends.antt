-- Taking from the two ends of a list, by a word of ends.
use Rattle.std.specs.Prelude.{◌≡◌, ℕ, ◌+◌, ◌-◌, min, List, [], ◌∷◌, ◌++◌, length, get_or, take, drop, reverse, slice_range, map, replicate, Option, Some, None}

-- an end of a list
pub data End : Type 0 where
  front : End
  back : End

-- how many letters of a word are `front`
abbrev pub fronts : List End → ℕ
fronts [] = 0
fronts (front ∷ word) = fronts word + 1
fronts (back ∷ word) = fronts word

-- how many letters of a word are `back`
abbrev pub backs : List End → ℕ
backs [] = 0
backs (front ∷ word) = backs word
backs (back ∷ word) = backs word + 1

module _ {T : Type 0} where
  -- of the items that the letters of a word are given, those of the letters `front`
  abbrev pub from_front : List End → List T → List T
  from_front [] given = []
  from_front (e ∷ word) [] = []
  from_front (front ∷ word) (x ∷ given) = x ∷ from_front word given
  from_front (back ∷ word) (x ∷ given) = from_front word given

  -- and those of the letters `back`
  abbrev pub from_back : List End → List T → List T
  from_back [] given = []
  from_back (e ∷ word) [] = []
  from_back (front ∷ word) (x ∷ given) = from_back word given
  from_back (back ∷ word) (x ∷ given) = x ∷ from_back word given

  -- A word takes these items from xs, one for each letter as long as there are any. Of these letters p are `front` and q are
  -- `back`: the first are given the first p items in order, the others the last q, the last one first.
  pub record GivenByWord (xs : List T) (word : List End) (given : List T) : Type 0 where
    pub count : length given ≡ min (length word) (length xs)
    pub first : from_front word given ≡ take (fronts (take (length given) word)) xs
    pub last : from_back word given ≡ reverse (drop (length xs - backs (take (length given) word)) xs)

  -- The letters of a word are answered with the items that it takes, and then with `None`. What is left is between these items.
  pub record TakesFromEnds (xs : List T) (word : List End) (answers : List (Option T)) (left : List T) : Type 0 where
    pub given : List T
    pub by_word : GivenByWord xs word given
    pub answered : answers ≡ map Some given ++ replicate (length word - length given) None
    pub middle : left ≡ slice_range xs (fronts (take (length given) word)) (length xs - backs (take (length given) word))

-- The same letter by letter, which computes for a given word. `TakesFromEnds-computes` ties both.
module _ {T : Type 0} where
  -- how the letters are answered
  abbrev pub answered_by : List End → List T → List (Option T)
  answered_by [] xs = []
  answered_by (e ∷ word) [] = None ∷ answered_by word []
  answered_by (front ∷ word) (x ∷ xs) = Some x ∷ answered_by word xs
  answered_by (back ∷ word) (x ∷ xs) = Some (get_or (x ∷ xs) (length xs) x) ∷ answered_by word (take (length xs) (x ∷ xs))

  -- the items among the answers
  abbrev pub given_items : List (Option T) → List T
  given_items [] = []
  given_items (None ∷ answers) = given_items answers
  given_items (Some x ∷ answers) = x ∷ given_items answers

  -- the items that a word takes
  abbrev pub taken_items : List End → List T → List T
  taken_items word xs = given_items (answered_by word xs)

-- Calls of `next` and `next_back`, by the letters of a word, took `from` to `to` and were answered so.
module _ {S T : Type 0} (gives gives_back : S → Option T → S → Type 0) where
  abbrev pub RunsWord : S → List End → List (Option T) → S → Type 0
  RunsWord from [] [] to = to ≡ from
  RunsWord from [] (r ∷ answers) to = ⊥
  RunsWord from (e ∷ word) [] to = ⊥
  RunsWord from (front ∷ word) (r ∷ answers) to = (mid : S) × gives from r mid × RunsWord mid word answers to
  RunsWord from (back ∷ word) (r ∷ answers) to = (mid : S) × gives_back from r mid × RunsWord mid word answers to
