use Rattle.std.proofs.Common.{◌≡◌, ◌+◌, drop}
use Rattle.example_nodes.specs.Machine.{outcome_on}
use Rattle.example_nodes.specs.Squares.{squares_line, squares_outcome}
use Rattle.example_nodes.specs.Parts.{reading_of}
use Rattle.example_nodes.proofs.squares.parse_squares.Given as goal

abbrev pub invariant-loop-at : goal.invariant-loop-at
invariant-loop-at l = outcome_on squares_line (reading_of l.parser) (l.at + 1) (drop l.at l.line) ≡ squares_outcome l.line
