-- What the end of a line says of it.
use Rattle.std.proofs.Common.{◌≡◌, ◌∙◌, ℕ, ◌^◌, ◌<◌, List, [], length, None, Result, Ok, Err, OnOk, sym, ap, arith}
use Rattle.std.specs.Result.{IfOk, IfErr}
use Rattle.tinyvec.specs.TinyVec.{tiny_items}
use Rattle.example_nodes.specs.Tree.{all_nodes}
use Rattle.example_nodes.specs.Nodes.{views}
use Rattle.example_nodes.specs.Machine.{right, outcome_on}
use Rattle.example_nodes.specs.Outcome.{State, ended, end_fault, nodes_line, outcome}
use Rattle.example_nodes.specs.Faults.{IsAt, IsSaid}
use Rattle.example_nodes.specs.Parsers.{nodes_words}
use Rattle.example_nodes.specs.declared.parse_error.ParseError.{ParseError}
use Rattle.example_nodes.proofs.Steps.{ends, ends_wrong}
use Rattle.example_nodes.proofs.States.{Nodes}
use Rattle.example_nodes.proofs.Bounds.{no_more}

module _ (line : List ℕ) (s : State) (column : ℕ) (is : outcome_on nodes_line s column [] ≡ outcome line) where
  pub parsed : (r : Result Nodes ParseError) → OnOk r (end_fault s ≡ None) → IfOk r (λ v. nodes_words v ≡ (ended s).words) → IfOk r (λ v. outcome line ≡ right (nodes_words v))
  parsed (Ok v) none words = sym (ap right words ∙ ends nodes_line s column (outcome line) is none)
  parsed (Err e) none words = tt

  pub failed : (r : Result Nodes ParseError) → IfErr r (λ e. IsAt e column (end_fault s)) → IfErr r (IsSaid (outcome line))
  failed (Ok v) at = tt
  failed (Err e) at = ends_wrong nodes_line s column (outcome line) is e at

pub few : (line : List ℕ) → length line < 2 ^ 64 → (r : Result Nodes ParseError) → IfOk r (λ v. outcome line ≡ right (nodes_words v)) → IfOk r (λ v. all_nodes (views (tiny_items v)) < 2 ^ 64)
few line short (Ok v) is = omega (arith, no_more line v is, short)
few line short (Err e) is = tt
