-- A line of squares: what it says.
use Rattle.std.specs.Prelude.{ℕ, ◌+◌, ◌==◌, ◌||◌, nat_lt, List, [], ◌∷◌, ◌++◌, length, drop, get_or, if◌then◌else◌, Option, Some}
use Rattle.example_nodes.specs.Machine.{Machine, Outcome, demanded, outcome_on}
use Rattle.example_nodes.specs.declared.parse_error.Fault.{Fault}
use Rattle.example_nodes.specs.declared.parse_error.Fault.TheVariants.{NotOpen, NotClosed, TooDeep, Byte, Full}

-- what was read: its text, how many parts follow the last open bracket, and how many precede each, the last bracket first
pub record Reading : Type 0 where
  pub text : List ℕ
  pub parts : ℕ
  pub outer : List ℕ

abbrev pub unread : Reading
unread = record { text = []; parts = 0; outer = [] }

-- one part more
abbrev pub placed : Reading → List ℕ → Reading
placed r part = record { text = r.text ++ part; parts = r.parts + 1; outer = r.outer }

-- a bracket opens
abbrev pub unfolded : Reading → Reading
unfolded r = record { text = r.text ++ 91 ∷ []; parts = 0; outer = r.parts ∷ r.outer }

-- a bracket closes: what is in it is one part
abbrev pub folded : Reading → Reading
folded r = record { text = r.text ++ 93 ∷ []; parts = get_or r.outer 0 0 + 1; outer = drop 1 r.outer }

abbrev pub square_next : Reading → ℕ → Reading
square_next r byte = if byte == 91 then unfolded r else (if byte == 93 then folded r else placed r (byte ∷ []))

-- no more than four parts
abbrev pub full_fault : ℕ → Option Fault
full_fault n = demanded (nat_lt n 4) Full

abbrev pub place_fault : Reading → Option Fault
place_fault r = full_fault r.parts

-- no more than 128 brackets are open at a time
abbrev pub open_fault : Reading → Option Fault
open_fault r = demanded (nat_lt (length r.outer) 128) TooDeep

abbrev pub close_fault : Reading → Option Fault
close_fault r = if length r.outer == 0 then Some NotOpen else full_fault (get_or r.outer 0 0)

abbrev pub square_fault : Reading → ℕ → Option Fault
square_fault r byte =
    if byte == 91 then open_fault r
    else (if byte == 93 then close_fault r
    else (if (byte == 35) || ((byte == 46) || (byte == 95)) then place_fault r
    else Some Byte))

abbrev pub squares_line : Machine Reading (List ℕ)
squares_line = record {
  next = square_next;
  fault = square_fault;
  end_fault = λ r. demanded (length r.outer == 0) NotClosed;
  says = λ r. r.text;
}

abbrev pub squares_outcome : List ℕ → Outcome (List ℕ)
squares_outcome line = outcome_on squares_line unread 1 line

-- how many squares a text has: each begins with one of three bytes
abbrev pub squares_in : List ℕ → ℕ
squares_in [] = 0
squares_in (byte ∷ bytes) = (if (byte == 35) || ((byte == 46) || (byte == 91)) then 1 else 0) + squares_in bytes
