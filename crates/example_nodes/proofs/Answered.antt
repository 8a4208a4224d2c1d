-- The text of an answer, piece by piece.
use Rattle.std.proofs.Common.{◌≡◌, ◌∙◌, ℕ, List, [], ◌∷◌, ◌++◌, Bool, if◌then◌else◌, codes, ap, append_assoc}
use Rattle.std.specs.Fmt.{decimal}
use Rattle.example_nodes.specs.Machine.{Outcome}
use Rattle.example_nodes.specs.Faults.{IsSaid}
use Rattle.example_nodes.specs.Squares.{squares_outcome}
use Rattle.example_nodes.specs.Answer.{said_of, nodes_outcome, nodes_said, squares_said}
use Rattle.example_nodes.specs.declared.parse_error.ParseError.{ParseError}
use Rattle.example_nodes.specs.declared.parse_error.ParseError.TheVariants.{Syntax, Memory}

-- a number, and what follows it
abbrev pub counted : ℕ → List ℕ → List ℕ
counted count body = decimal count ++ (codes ": " ++ (body ++ 10 ∷ []))

pub answered : (start : List ℕ) (count : ℕ) (body first second text : List ℕ) → first ≡ start ++ (decimal count ++ codes ": ") → second ≡ first ++ body → text ≡ second ++ 10 ∷ []
    → text ≡ start ++ counted count body
answered start count body first second text one two three =
    let n = decimal count in
    let rest = body ++ 10 ∷ [] in
    three
    ∙ ap (λ t. t ++ 10 ∷ []) (two ∙ ap (λ t. t ++ body) one)
    ∙ append_assoc (start ++ (n ++ codes ": ")) body (10 ∷ [])
    ∙ append_assoc start (n ++ codes ": ") rest
    ∙ ap (λ t. start ++ t) (append_assoc n (codes ": ") rest)

-- by whether a line has squares
abbrev pub line_by : List ℕ → Bool → Outcome (List ℕ)
line_by line squares = if squares then said_of squares_said (squares_outcome line) else said_of nodes_said (nodes_outcome line)

-- what is wrong with a line is wrong with what is said of it
pub still_said : {A B : Type 0} (f : A → B) (read : Outcome A) (all : Outcome B) → all ≡ said_of f read → (error : ParseError) → IsSaid read error → IsSaid all error
still_said f read all here (Syntax column fault) is = here ∙ ap (said_of f) is
still_said f read all here Memory is = tt
