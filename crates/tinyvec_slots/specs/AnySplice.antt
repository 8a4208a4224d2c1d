-- What all splices do: a splice shows a view of itself, and `keeps` says what its calls leave as it was.
use Rattle.std.specs.Prelude.{◌≡◌, ℕ, ◌+◌, ◌-◌, ◌*◌, ◌<◌, ◌≤◌, List, [], ◌∷◌, ◌++◌, length, Option, Some, MatchOption, Result, MatchResult, max, IsOk, OnOk, OnErr, IfErr, ◌↔◌}
use Rattle.std.specs.Option.{option_to_list}
use Rattle.std.specs.Iterator.{Drains, YieldsThen}
use Rattle.tinyvec_slots.specs.declared.no_room.NoRoom.{NoRoom}

-- what a contract sees of a splice
pub record SpliceView (I T : Type 0) : Type 0 where
  -- what preceded the range, and the replacement items placed from the front
  pub front : List T
  -- the removed items that are left
  pub left : List T
  -- the replacement items placed from the back, and what followed the range
  pub back : List T
  -- the rest of the replacement
  pub replacement : I
  -- the number of touches since `splice`
  pub touches : ℕ

-- A splice that shows s, and whose `len()` is count, has placed no item yet: these items precede, are left in, and follow the
-- range.
pub record SpliceBegins {I T : Type 0} (ahead inside behind : List T) (s : SpliceView I T) (count : ℕ) : Type 0 where
  pub front : s.front ≡ ahead
  pub left : s.left ≡ inside
  pub len : count ≡ length s.left
  pub back : s.back ≡ behind
  pub touches : s.touches ≡ 0

module _ {I T : Type 0} (gives : I → Option T → I → Type 0) where
  -- x was yielded, the first removed item that was left. The item that the replacement yielded, if any, is placed at the front.
  pub record GivesFromFront (old : SpliceView I T) (x : T) (new : SpliceView I T) : Type 0 where
    pub left : old.left ≡ x ∷ new.left
    pub placed : Option T
    pub asked : gives old.replacement placed new.replacement
    pub front : new.front ≡ old.front ++ option_to_list placed
    pub back : new.back ≡ old.back
    pub touches : new.touches ≡ old.touches + 1 + length (option_to_list placed)

  -- the same from the back
  pub record GivesFromBack (old : SpliceView I T) (x : T) (new : SpliceView I T) : Type 0 where
    pub left : old.left ≡ new.left ++ x ∷ []
    pub placed : Option T
    pub asked : gives old.replacement placed new.replacement
    pub front : new.front ≡ old.front
    pub back : new.back ≡ option_to_list placed ++ old.back
    pub touches : new.touches ≡ old.touches + 1 + length (option_to_list placed)

module _ {S I T : Type 0} (view : S → SpliceView I T) (keeps : S → S → Type 0) (gives : I → Option T → I → Type 0) where
  -- `next` took old to new
  abbrev pub Splices : S → Option T → S → Type 0
  Splices old item new = MatchOption item (((view old).left ≡ []) × (new ≡ old))
      (λ x. GivesFromFront gives (view old) x (view new) × keeps old new)

  -- `next_back` took old to new
  abbrev pub SplicesBack : S → Option T → S → Type 0
  SplicesBack old item new = MatchOption item (((view old).left ≡ []) × (new ≡ old))
      (λ x. GivesFromBack gives (view old) x (view new) × keeps old new)

module _ {I T : Type 0} where
  -- how many items of the replacement `finish` placed
  abbrev pub finish_placed : SpliceView I T → List T → ℕ
  finish_placed s list = length list - (length s.front + length s.back)

  -- how many touches `finish` may need for the removed items that are left, for those that it places and for moving, if
  -- `slots` slots held the list
  abbrev pub finish_bound : SpliceView I T → ℕ → List T → ℕ
  finish_bound s slots list = length s.left + finish_placed s list + max slots (length list)

  -- `finish` of s, whose list was in `slots` slots, left `list`, and n touches since `splice`. If the list got no longer, n is
  -- exact: two touches for each item placed in a filled gap, and in a closed one a further touch for each slot after those. Else
  -- it is at least one for each item placed, and at most one more for each removed item that was left, and for each slot of the
  -- longer list.
  pub record FinishTouches (s : SpliceView I T) (slots : ℕ) (list : List T) (n : ℕ) : Type 0 where
    pub filled : length list ≡ slots → n ≡ s.touches + 2 * finish_placed s list
    pub closed : length list < slots → n ≡ s.touches + finish_placed s list + (slots - length s.front)
    pub at_least : s.touches + finish_placed s list ≤ n
    pub at_most : n ≤ s.touches + finish_bound s slots list

module _ {I T : Type 0} (gives : I → Option T → I → Type 0) (capacity : ℕ) where
  -- `finish` of s returned the result. It placed what the replacement still yielded, as far as there was room, between the
  -- front and the back.
  pub record Finishes (s : SpliceView I T) (result : Result Unit (NoRoom T I)) (list : List T) : Type 0 where
    pub placed : List T
    pub ran : MatchResult result (λ _. Drains gives s.replacement placed)
        (λ refused. YieldsThen gives s.replacement placed (Some refused.item) refused.rest)
    pub list_is : list ≡ s.front ++ placed ++ s.back
    pub full : OnErr result (length list ≡ capacity)
    pub fits : length list ≤ capacity

-- the same, if it is known what the replacement still yields: all of it was placed, or it did not fit
module _ {I T : Type 0} (rest : I → List T) (capacity : ℕ) where
  pub record FinishesWith (s : SpliceView I T) (result : Result Unit (NoRoom T I)) (list : List T) : Type 0 where
    pub succeeds : IsOk result ↔ (length s.front + length (rest s.replacement) + length s.back ≤ capacity)
    pub all : OnOk result (list ≡ s.front ++ rest s.replacement ++ s.back)
    pub refused : IfErr result (λ refused. (placed : List T) × (rest s.replacement ≡ placed ++ refused.item ∷ rest refused.rest)
        × (list ≡ s.front ++ placed ++ s.back) × (length list ≡ capacity))
