-- A line has no more nodes than bytes.
use Rattle.std.proofs.Common.{◌≡◌, ℕ, suc, ◌+◌, ◌≤◌, ◌==◌, List, [], ◌∷◌, ◌++◌, length, Bool, true, false, if◌then◌else◌, Option, None, Some, ap, arith}
use Rattle.std.specs.Char.{is_ascii_digit}
use Rattle.tinyvec.specs.TinyVec.{tiny_items}
use Rattle.example_nodes.specs.Words.{Word, opening, closing, number, beginnings}
use Rattle.example_nodes.specs.Tree.{all_nodes}
use Rattle.example_nodes.specs.Nodes.{views}
use Rattle.example_nodes.specs.Machine.{right, outcome_on}
use Rattle.example_nodes.specs.Outcome.{State, start, last_words, digit, ended, opened, closed, sign, next, fault, end_fault, nodes_line, outcome}
use Rattle.example_nodes.specs.Parsers.{nodes_words}
use Rattle.example_nodes.proofs.Counted.{beginnings_of}
use Rattle.example_nodes.proofs.Steps.{passes, reads}
use Rattle.example_nodes.proofs.States.{Nodes}

begun_both : (ws vs : List Word) → beginnings (ws ++ vs) ≡ beginnings ws + beginnings vs
begun_both [] vs = omega arith
begun_both (opening ∷ ws) vs = omega (arith, begun_both ws vs)
begun_both (closing ∷ ws) vs = begun_both ws vs
begun_both (number n ∷ ws) vs = omega (arith, begun_both ws vs)

abbrev pending : Option ℕ → ℕ
pending None = 0
pending (Some n) = 1

-- the nodes that began
abbrev weight : State → ℕ
weight s = beginnings s.words + pending s.last

weight_ended : (ws : List Word) (depth : ℕ) (last : Option ℕ) → beginnings (ws ++ last_words last) ≡ weight record { words = ws; depth = depth; last = last }
weight_ended ws depth None = begun_both ws []
weight_ended ws depth (Some n) = begun_both ws (number n ∷ [])

module _ (s : State) where
  weight_sign : (opens closes : Bool) → weight (if opens then opened s else (if closes then closed s else s)) ≤ weight s + 1
  weight_sign true closes = omega (arith, begun_both s.words (opening ∷ []))
  weight_sign false true = omega (arith, begun_both s.words (closing ∷ []))
  weight_sign false false = omega arith

  weight_digit : (byte : ℕ) → weight (digit s byte) ≤ weight s + 1
  weight_digit byte = omega arith

weight_next : (s : State) (byte : ℕ) (is : Bool) → weight (if is then digit s byte else sign (ended s) byte) ≤ weight s + 1
weight_next s byte true = weight_digit s byte
weight_next s byte false = omega (arith, weight_sign (ended s) (byte == 40) (byte == 41), weight_ended s.words s.depth s.last)

bounded : (s : State) (column : ℕ) (bytes : List ℕ) (ws : List Word) → outcome_on nodes_line s column bytes ≡ right ws → beginnings ws ≤ weight s + length bytes
bounded s column [] ws is =
    omega (arith, ap beginnings (reads (ended s).words ws (passes column (end_fault s) (right (ended s).words) ws is)), weight_ended s.words s.depth s.last)
bounded s column (byte ∷ bytes) ws is =
    omega (arith, bounded (next s byte) (suc column) bytes ws (passes column (fault s byte) (outcome_on nodes_line (next s byte) (suc column) bytes) ws is), weight_next s byte (is_ascii_digit byte))

pub no_more : (line : List ℕ) (v : Nodes) → outcome line ≡ right (nodes_words v) → all_nodes (views (tiny_items v)) ≤ length line
no_more line v is = omega (arith, bounded start 1 line (nodes_words v) is, beginnings_of (views (tiny_items v)))
