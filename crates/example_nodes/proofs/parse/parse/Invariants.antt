use Rattle.std.proofs.Common.{◌≡◌, ◌+◌, drop}
use Rattle.example_nodes.specs.Machine.{outcome_on}
use Rattle.example_nodes.specs.Outcome.{nodes_line, outcome}
use Rattle.example_nodes.specs.Parsers.{state_of}
use Rattle.example_nodes.proofs.parse.parse.Given as goal

abbrev pub invariant-loop-at : goal.invariant-loop-at
invariant-loop-at l = outcome_on nodes_line (state_of l.parser l.number) (l.at + 1) (drop l.at l.line) ≡ outcome l.line
