-- Brackets and numbers, and how they are written.
use Rattle.std.specs.Prelude.{ℕ, ◌+◌, List, [], ◌∷◌, ◌++◌, Bool, true, false, if◌then◌else◌}
use Rattle.std.specs.Fmt.{decimal}

pub data Word : Type 0 where
  opening : Word
  closing : Word
  number : ℕ → Word

-- how many words begin a node: each but the closing brackets
abbrev pub beginnings : List Word → ℕ
beginnings [] = 0
beginnings (opening ∷ ws) = 1 + beginnings ws
beginnings (closing ∷ ws) = beginnings ws
beginnings (number n ∷ ws) = 1 + beginnings ws

-- the leaves, in order: the words without the brackets
abbrev pub leaves : List Word → List Word
leaves [] = []
leaves (opening ∷ ws) = leaves ws
leaves (closing ∷ ws) = leaves ws
leaves (number n ∷ ws) = number n ∷ leaves ws

abbrev pub blank_if : Bool → List ℕ
blank_if wanted = if wanted then 32 ∷ [] else []

-- The text of some words. A blank is before each node that another precedes in its list: `blank` is for the first word.
abbrev pub words_text_after : Bool → List Word → List ℕ
words_text_after blank [] = []
words_text_after blank (opening ∷ ws) = blank_if blank ++ 40 ∷ words_text_after false ws
words_text_after blank (closing ∷ ws) = 41 ∷ words_text_after true ws
words_text_after blank (number n ∷ ws) = blank_if blank ++ (decimal n ++ words_text_after true ws)

abbrev pub words_text : List Word → List ℕ
words_text ws = words_text_after false ws
