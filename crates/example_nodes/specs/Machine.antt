-- A line that is read byte by byte: what it says, or where it is wrong, and how.
use Rattle.std.specs.Prelude.{ℕ, suc, List, [], ◌∷◌, ◌++◌, Bool, if◌then◌else◌, Option, None, Some}
use Rattle.example_nodes.specs.declared.parse_error.Fault.{Fault}

pub data Outcome (A : Type 0) : Type 0 where
  right : A → Outcome A
  wrong : ℕ → Fault → Outcome A

-- what a byte makes of what was read before it, what is wrong with the byte, or with the end of the line, and what a line says that ends
pub record Machine (S A : Type 0) : Type 0 where
  pub next : S → ℕ → S
  pub fault : S → ℕ → Option Fault
  pub end_fault : S → Option Fault
  pub says : S → A

-- a fault, unless something holds
abbrev pub demanded : Bool → Fault → Option Fault
demanded holds f = if holds then None else Some f

abbrev pub unless : {A : Type 0} → ℕ → Option Fault → Outcome A → Outcome A
unless column (Some f) rest = wrong column f
unless column None rest = rest

module _ {S A : Type 0} (m : Machine S A) where
  -- what the rest of a line says, from a column on
  abbrev pub outcome_on : S → ℕ → List ℕ → Outcome A
  outcome_on s column [] = unless column (m.end_fault s) (right (m.says s))
  outcome_on s column (byte ∷ bytes) = unless column (m.fault s byte) (outcome_on (m.next s byte) (suc column) bytes)

-- what precedes each open bracket, and the bracket after it
abbrev pub followed_by : {A : Type 0} → A → List (List A) → List A
followed_by bracket [] = []
followed_by bracket (xs ∷ xss) = xs ++ bracket ∷ followed_by bracket xss
