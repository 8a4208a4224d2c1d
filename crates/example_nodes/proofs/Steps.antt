-- What one byte does, and what the end of a line does.
use Rattle.std.proofs.Common.{◌≡◌, ◌∙◌, ℕ, suc, ◌+◌, ◌<◌, ◌≤◌, List, [], length, drop, get_or, Bool, true, false, if◌then◌else◌, Option, None, Some, refl, sym, ap, arith, drop-cons, add-one}
use Rattle.std.proofs.lemmas.Bool.{false≢true}
use Rattle.std.proofs.lemmas.List.{drop_all}
use Rattle.std.specs.Char.{is_ascii_digit}
use Rattle.example_nodes.specs.Machine.{Machine, Outcome, right, wrong, demanded, unless, outcome_on}
use Rattle.example_nodes.specs.Outcome.{State, digit, ended, sign, next, digit_fault, sign_fault, fault}
use Rattle.example_nodes.specs.Faults.{IsAt, IsSaid}
use Rattle.example_nodes.specs.declared.parse_error.Fault.{Fault}
use Rattle.example_nodes.specs.declared.parse_error.ParseError.{ParseError}
use Rattle.example_nodes.specs.declared.parse_error.ParseError.TheVariants.{Syntax, Memory}

-- by whether a byte is a digit
module _ (s : State) (byte : ℕ) where
  pub next_by : {is : Bool} → is_ascii_digit byte ≡ is → next s byte ≡ (if is then digit s byte else sign (ended s) byte)
  next_by e = ap (λ d. if d then digit s byte else sign (ended s) byte) e

  pub fault_by : {is : Bool} → is_ascii_digit byte ≡ is → fault s byte ≡ (if is then digit_fault s byte else sign_fault (ended s) byte)
  fault_by e = ap (λ d. if d then digit_fault s byte else sign_fault (ended s) byte) e

module _ {S A : Type 0} (m : Machine S A) (s : S) where
  -- the rest of a line from a byte on
  module _ (at : ℕ) (line : List ℕ) (said : Outcome A) (inside : at < length line) (is : outcome_on m s (at + 1) (drop at line) ≡ said) where
    abbrev byte : ℕ
    byte = get_or line at 0

    abbrev rest : Option Fault → Outcome A
    rest found = unless (at + 1) found (outcome_on m (m.next s byte) (suc (at + 1)) (drop (suc at) line))

    there : rest (m.fault s byte) ≡ said
    there = ap (outcome_on m s (at + 1)) (sym (drop-cons line at 0 inside)) ∙ is

    pub goes_on : m.fault s byte ≡ None → outcome_on m (m.next s byte) (at + 1 + 1) (drop (at + 1) line) ≡ said
    goes_on none =
        ap (λ n. outcome_on m (m.next s byte) (at + 1 + 1) (drop n line)) (add-one at)
        ∙ ap (λ n. outcome_on m (m.next s byte) n (drop (suc at) line)) (add-one (at + 1))
        ∙ ap rest (sym none) ∙ there

    pub stops : (error : ParseError) → IsAt error (at + 1) (m.fault s byte) → IsSaid said error
    stops (Syntax place found) is_at = sym there ∙ ap rest is_at.1 ∙ ap (λ n. wrong n found) (sym is_at.0)
    stops Memory is_at = tt

  -- nothing is left at the end
  pub at_end : (at : ℕ) (line : List ℕ) (said : Outcome A) → length line ≤ at → at ≤ length line → outcome_on m s (at + 1) (drop at line) ≡ said → outcome_on m s (length line + 1) [] ≡ said
  at_end at line said low high is =
      let same : at ≡ length line = omega (arith, low, high) in
      ap (λ n. outcome_on m s (n + 1) []) (sym same) ∙ ap (outcome_on m s (at + 1)) (sym (drop_all at line low)) ∙ is

  -- the end of a line
  module _ (column : ℕ) (said : Outcome A) (is : outcome_on m s column [] ≡ said) where
    abbrev last : Option Fault → Outcome A
    last found = unless column found (right (m.says s))

    pub ends : m.end_fault s ≡ None → right (m.says s) ≡ said
    ends none = ap last (sym none) ∙ is

    pub ends_wrong : (error : ParseError) → IsAt error column (m.end_fault s) → IsSaid said error
    ends_wrong (Syntax place found) is_at = sym is ∙ ap last is_at.1 ∙ ap (λ n. wrong n found) (sym is_at.0)
    ends_wrong Memory is_at = tt

-- a fault that is none
pub none_demanded : (holds : Bool) (f : Fault) → demanded holds f ≡ None → holds ≡ true
none_demanded true f none = refl
none_demanded false f none = absurd (cc none)

-- a line that is right has no fault, and says one thing
abbrev is_right : {A : Type 0} → Outcome A → Bool
is_right (right a) = true
is_right (wrong column f) = false

abbrev said_or : {A : Type 0} → A → Outcome A → A
said_or a (right b) = b
said_or a (wrong column f) = a

module _ {A : Type 0} where
  pub passes : (column : ℕ) (f : Option Fault) (rest : Outcome A) (a : A) → unless column f rest ≡ right a → rest ≡ right a
  passes column (Some f) rest a is = absurd (false≢true (ap is_right is))
  passes column None rest a is = is

  pub reads : (a b : A) → right a ≡ right b → a ≡ b
  reads a b is = ap (said_or a) is
