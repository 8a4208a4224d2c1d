-- What an error says of a line.
use Rattle.std.specs.Prelude.{◌≡◌, ℕ, Option, None, Some, Result, MatchResult, ⊤}
use Rattle.example_nodes.specs.Machine.{Outcome, wrong}
use Rattle.example_nodes.specs.declared.parse_error.Fault.{Fault}
use Rattle.example_nodes.specs.declared.parse_error.ParseError.{ParseError}
use Rattle.example_nodes.specs.declared.parse_error.ParseError.TheVariants.{Syntax, Memory}

-- the error is such a fault, in this column
abbrev pub IsAt : ParseError → ℕ → Option Fault → Type 0
IsAt (Syntax place fault) column found = (place ≡ column) × (found ≡ Some fault)
IsAt Memory column found = ⊤

-- the error is what the line says. Memory may be refused for any line.
abbrev pub IsSaid : {A : Type 0} → Outcome A → ParseError → Type 0
IsSaid said (Syntax column fault) = said ≡ wrong column fault
IsSaid said Memory = ⊤

-- a byte has no such fault, and the state is the next; or the error is the fault
abbrev pub Answers : {S : Type 0} → Result Unit ParseError → ℕ → Option Fault → S → S → Type 0
Answers result column fault new next = MatchResult result (λ _. (fault ≡ None) × (new ≡ next)) (λ error. IsAt error column fault)

-- the same, where the state depends on what is returned
abbrev pub Gives : {T S : Type 0} → Result T ParseError → ℕ → Option Fault → (T → S) → S → Type 0
Gives result column fault state next = MatchResult result (λ value. (fault ≡ None) × (state value ≡ next)) (λ error. IsAt error column fault)
