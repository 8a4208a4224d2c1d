-- Scripts, and what they write.
use Rattle.std.specs.Prelude.{ℕ, List, [], ◌∷◌, codes}

-- the three lines of the README
abbrev pub three : List (List ℕ)
three = codes "A push 1" ∷ codes "A push 2" ∷ codes "A pop" ∷ []

abbrev pub three_answers : List (List ℕ)
three_answers = codes "ok [1] [0, 0, 0]" ∷ codes "ok [1, 2] [0, 0]" ∷ codes "some 2 [1] [0, 0, 0]" ∷ []

-- a line that is no command, and one of the text
abbrev pub bad_and_text : List (List ℕ)
bad_and_text = codes "B pop" ∷ codes "X add hi" ∷ []

abbrev pub bad_and_text_answers : List (List ℕ)
bad_and_text_answers = codes "bad" ∷ codes "ok [hi] inline" ∷ []

-- a splice that returns a rest, and what is written if memory is refused for it
abbrev pub spliced : List (List ℕ)
spliced = codes "A setlen 2" ∷ codes "A splice 0 1 - 1 2 3 4" ∷ []

abbrev pub spliced_answers : List (List ℕ)
spliced_answers = codes "ok [0, 0] [0, 0]" ∷ codes "items [] rest [4] [1, 2, 3, 0] []" ∷ []

abbrev pub refused_answers : List (List ℕ)
refused_answers = codes "ok [0, 0] [0, 0]" ∷ codes "memory [0, 0] [0, 0]" ∷ []
