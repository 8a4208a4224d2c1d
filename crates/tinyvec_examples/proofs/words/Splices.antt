-- Examples of splices: of one that has `[1]` before it and `[4]` after it, and whose replacement is seen as a list.
use Rattle.std.proofs.Common.{◌≡◌, ℕ, List, [], ◌∷◌, ◌++◌, Some, Ok, Result, false, codes, refl, rules, arith}
use Rattle.std.specs.Fmt.{radix_digits}
use Rattle.tinyvec_slots.specs.declared.no_room.NoRoom.{NoRoom}
use Rattle.tinyvec_slots.specs.AnySplice.{SpliceView, SpliceBegins, FinishTouches, Finishes, FinishesWith}
use Rattle.tinyvec_slots.specs.Replacing.{PutsBetween}
use Rattle.tinyvec_slots.specs.Texts.{list_in_radix}
use Rattle.tinyvec_array.specs.IntoIter.{GivesFirst}
use Rattle.tinyvec_examples.proofs.words.Shown.{nums}

-- what is seen of a splice of `[1, 2, 3, 4]` over 1..3
abbrev pub s : List ℕ → SpliceView (List ℕ) ℕ
s replacement = record {
  front = 1 ∷ [];
  left = 2 ∷ 3 ∷ [];
  back = 4 ∷ [];
  replacement = replacement;
  touches = 0;
}

abbrev pub done : Result Unit (NoRoom ℕ (List ℕ))
done = Ok _

pub example-SpliceBegins : SpliceBegins (1 ∷ []) (2 ∷ 3 ∷ []) (4 ∷ []) (s (7 ∷ [])) 2
example-SpliceBegins = search rules

-- one item is placed and one slot closed, over which the last item moves
pub example-FinishTouches : FinishTouches (s (7 ∷ [])) 4 (1 ∷ 7 ∷ 4 ∷ []) 4
example-FinishTouches = search rules

pub example-Finishes : Finishes GivesFirst 8 (s (7 ∷ [])) done (1 ∷ 7 ∷ 4 ∷ [])
example-Finishes = record {
  placed = 7 ∷ [];
  ran = search rules;
  list_is = refl;
  full = search rules;
  fits = omega arith;
}

pub example-FinishesWith : FinishesWith (λ left. left) 8 (s (7 ∷ [])) done (1 ∷ 7 ∷ 4 ∷ [])
example-FinishesWith = search rules

pub example-PutsBetween : PutsBetween 8 (nums (1 ∷ [])) (7 ∷ []) (4 ∷ []) done (1 ∷ 7 ∷ 4 ∷ [])
example-PutsBetween = search rules

pub example-list_in_radix : list_in_radix Some 16 false (10 ∷ []) ≡ Some (codes "[" ++ radix_digits 16 false 10 ++ codes "]")
example-list_in_radix = search rules
