-- What is written for a line.
use Rattle.std.specs.Prelude.{◌≡◌, ◌⊎◌, ℕ, ◌+◌, ◌^◌, ◌-◌, min, nat_eq, List, [], ◌∷◌, ◌++◌, take, length, Bool, if◌then◌else◌, codes}
use Rattle.std.specs.List.{starts_with, ends_with}
use Rattle.std.specs.Fmt.{decimal}
use Rattle.example_nodes.specs.Words.{Word, beginnings, leaves, words_text}
use Rattle.example_nodes.specs.Machine.{Outcome, right, wrong}
use Rattle.example_nodes.specs.Outcome.{outcome}
use Rattle.example_nodes.specs.Squares.{squares_in, squares_outcome}
use Rattle.example_nodes.specs.declared.parse_error.Fault.{Fault}
use Rattle.example_nodes.specs.declared.parse_error.Fault.TheVariants.{NotOpen, NotClosed, TooDeep, Byte, Number, Full}

-- what a fault says
abbrev pub fault_text : Fault → List ℕ
fault_text NotOpen = codes "no list is open"
fault_text NotClosed = codes "a list is not closed"
fault_text TooDeep = codes "too many lists are open"
fault_text Byte = codes "this byte has no meaning"
fault_text Number = codes "the number is too large"
fault_text Full = codes "a fifth part ends here"

-- the number of the next line; those that are not counted any more have that of the last
abbrev pub later : ℕ → ℕ
later line = min (line + 1) (2 ^ 64 - 1)

-- how many nodes there are, and the same words, written anew
abbrev pub nodes_said : List Word → List ℕ
nodes_said ws = decimal (beginnings ws) ++ (codes ": " ++ (words_text ws ++ 10 ∷ []))

-- how many squares there are, and the same text
abbrev pub squares_said : List ℕ → List ℕ
squares_said text = decimal (squares_in text) ++ (codes ": " ++ (text ++ 10 ∷ []))

abbrev pub said_of : {A B : Type 0} → (A → B) → Outcome A → Outcome B
said_of f (right read) = right (f read)
said_of f (wrong column fault) = wrong column fault

-- the text grows by what a line says, which is right
abbrev pub AppendsSaid : Outcome (List ℕ) → (old new : List ℕ) → Type 0
AppendsSaid said old new = (more : List ℕ) × (said ≡ right more) × (new ≡ old ++ more)

-- the words of a line of nodes; of one that ends with a plus, their leaves
abbrev pub nodes_outcome : List ℕ → Outcome (List Word)
nodes_outcome line =
    if ends_with nat_eq line (codes "+") then said_of leaves (outcome (take (length line - 1) line)) else outcome line

-- a line of squares begins with a bracket of theirs
abbrev pub begins_squares : List ℕ → Bool
begins_squares line = starts_with nat_eq line (codes "[")

-- what a line has, or what is wrong with it, and how it is written
abbrev pub line_outcome : List ℕ → Outcome (List ℕ)
line_outcome line = if begins_squares line then said_of squares_said (squares_outcome line) else said_of nodes_said (nodes_outcome line)

abbrev pub said : ℕ → Outcome (List ℕ) → List ℕ
said number (right text) = text
said number (wrong column fault) =
    codes "line " ++ (decimal number ++ (codes ", column " ++ (decimal column ++ (codes ": " ++ (fault_text fault ++ 10 ∷ [])))))

abbrev pub refused : ℕ → List ℕ
refused number = codes "line " ++ (decimal number ++ (codes ": out of memory" ++ 10 ∷ []))

-- the text is what the line with this number says, or says that memory was refused
abbrev pub AnswersLine : ℕ → List ℕ → List ℕ → Type 0
AnswersLine number line text = (text ≡ said number (line_outcome line)) ⊎ (text ≡ refused number)
