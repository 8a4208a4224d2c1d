-- The text of a square.
use Rattle.std.specs.Prelude.{ℕ, List, [], ◌∷◌, ◌++◌, map, reverse, if◌then◌else◌, Option, None, Some}
use Rattle.std.specs.Global.{Box}
use Rattle.tinyvec_array.specs.ArrayVec.{items, items_len}
use Rattle.tinyvec_array.specs.declared.array_vec.ArrayVec.{ArrayVec}
use Rattle.tinyvec_array.specs.declared.bound.UpTo.{UpTo}
use Rattle.example_nodes.specs.Machine.{followed_by}
use Rattle.example_nodes.specs.Squares.{Reading}
use Rattle.example_nodes.specs.declared.squares.Square.{Square, fold-Square}
use Rattle.example_nodes.specs.declared.squares.Square.TheOpen.{Square-F}
use Rattle.example_nodes.specs.declared.squares.SquareParser.{SquareParser}

module _ {A : Type 0} (f : A → List ℕ) where
  abbrev pub part_by : Option (Box A) → List ℕ
  part_by None = 95 ∷ []
  part_by (Some b) = f b.value

  abbrev pub parts_by : List (Option (Box A)) → List ℕ
  parts_by [] = []
  parts_by (p ∷ ps) = part_by p ++ parts_by ps

-- of one square, with the text of each square among its parts in its place
abbrev pub text_step : Square-F (List ℕ) → List ℕ
text_step (Square-F.Plain dark) = if dark then 35 ∷ [] else 46 ∷ []
text_step (Square-F.Parts parts) = 91 ∷ (parts_by (λ text. text) (items parts.value) ++ 93 ∷ [])

abbrev pub text_of : Square → List ℕ
text_of = fold-Square (List ℕ) text_step

abbrev pub part_text : Option (Box Square) → List ℕ
part_text = part_by text_of

abbrev pub parts_text : List (Option (Box Square)) → List ℕ
parts_text = parts_by text_of

abbrev pub vec_text : ArrayVec (List (Option (Box Square))) (UpTo 4) → List ℕ
vec_text v = parts_text (items v)

abbrev pub reading_of : SquareParser → Reading
reading_of p = record {
  text = followed_by 91 (map vec_text p.outer.items) ++ vec_text p.parts;
  parts = items_len p.parts;
  outer = reverse (map items_len p.outer.items);
}
