use Rattle.std.proofs.Common.{◌≡◌, ◌++◌, All, length, reverse}
use Rattle.tinyvec.specs.TinyVec.{tiny_items}
use Rattle.example_nodes.specs.Nodes.{IsNumber}
use Rattle.example_nodes.specs.Parsers.{nodes_words}
use Rattle.example_nodes.specs.Words.{leaves}
use Rattle.example_nodes.proofs.Flattened.{words_in}
use Rattle.example_nodes.proofs.flatten.flatten.Given as goal

-- the leaves that are left, and the numbers behind them, of which the last was pushed first
abbrev pub invariant-loop-last : goal.invariant-loop-last
invariant-loop-last l =
    (leaves (nodes_words l.nodes) ++ words_in (reverse (tiny_items l.flat)) ≡ leaves (nodes_words l.initial.nodes)) × All IsNumber (reverse (tiny_items l.flat))

abbrev pub decreases-loop-last : goal.decreases-loop-last
decreases-loop-last l = length (nodes_words l.nodes)
