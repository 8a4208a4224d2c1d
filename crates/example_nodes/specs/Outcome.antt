-- A line of nodes: what it says.
use Rattle.std.specs.Prelude.{ℕ, ◌+◌, ◌-◌, ◌*◌, ◌^◌, ◌==◌, nat_lt, List, [], ◌∷◌, ◌++◌, if◌then◌else◌, Option, None, Some, unwrap_or}
use Rattle.std.specs.Char.{is_ascii_digit}
use Rattle.example_nodes.specs.Words.{Word, opening, closing, number}
use Rattle.example_nodes.specs.Machine.{Machine, Outcome, demanded, outcome_on}
use Rattle.example_nodes.specs.declared.parse_error.Fault.{Fault}
use Rattle.example_nodes.specs.declared.parse_error.Fault.TheVariants.{NotOpen, NotClosed, TooDeep, Byte, Number}

-- what was read: the words that ended, how many brackets are open, and a number that may go on
pub record State : Type 0 where
  pub words : List Word
  pub depth : ℕ
  pub last : Option ℕ

abbrev pub start : State
start = record { words = []; depth = 0; last = None }

abbrev pub with_digit : Option ℕ → ℕ → ℕ
with_digit last byte = unwrap_or last 0 * 10 + (byte - 48)

abbrev pub digit : State → ℕ → State
digit s byte = record { words = s.words; depth = s.depth; last = Some (with_digit s.last byte) }

abbrev pub last_words : Option ℕ → List Word
last_words None = []
last_words (Some n) = number n ∷ []

-- a number ends
abbrev pub ended : State → State
ended s = record { words = s.words ++ last_words s.last; depth = s.depth; last = None }

abbrev pub opened : State → State
opened s = record { words = s.words ++ opening ∷ []; depth = s.depth + 1; last = s.last }

abbrev pub closed : State → State
closed s = record { words = s.words ++ closing ∷ []; depth = s.depth - 1; last = s.last }

-- a byte that is no digit
abbrev pub sign : State → ℕ → State
sign s byte = if byte == 40 then opened s else (if byte == 41 then closed s else s)

abbrev pub next : State → ℕ → State
next s byte = if is_ascii_digit byte then digit s byte else sign (ended s) byte

-- a number fits 64 bits
abbrev pub number_fault : Option ℕ → ℕ → Option Fault
number_fault last byte = demanded (nat_lt (with_digit last byte) (2 ^ 64)) Number

abbrev pub digit_fault : State → ℕ → Option Fault
digit_fault s byte = number_fault s.last byte

-- no more than 128 brackets are open at a time
abbrev pub open_fault : State → Option Fault
open_fault s = demanded (nat_lt s.depth 128) TooDeep

abbrev pub close_fault : State → Option Fault
close_fault s = if s.depth == 0 then Some NotOpen else None

abbrev pub sign_fault : State → ℕ → Option Fault
sign_fault s byte =
    if byte == 40 then open_fault s
    else (if byte == 41 then close_fault s
    else demanded (byte == 32) Byte)

abbrev pub fault : State → ℕ → Option Fault
fault s byte = if is_ascii_digit byte then digit_fault s byte else sign_fault (ended s) byte

abbrev pub end_fault : State → Option Fault
end_fault s = demanded (s.depth == 0) NotClosed

abbrev pub nodes_line : Machine State (List Word)
nodes_line = record { next = next; fault = fault; end_fault = end_fault; says = λ s. (ended s).words }

abbrev pub outcome : List ℕ → Outcome (List Word)
outcome line = outcome_on nodes_line start 1 line
