-- What a line that was read in part says.
use Rattle.std.specs.Prelude.{ℕ, List, ◌++◌, map, Option, vec_len}
use Rattle.tinyvec.specs.TinyVec.{tiny_items}
use Rattle.tinyvec.specs.declared.tiny_vec.TinyVec.{TinyVec}
use Rattle.tinyvec_array.specs.declared.bound.UpTo.{UpTo}
use Rattle.example_nodes.specs.Words.{Word, opening}
use Rattle.example_nodes.specs.Tree.{words_of}
use Rattle.example_nodes.specs.Nodes.{views}
use Rattle.example_nodes.specs.Machine.{followed_by}
use Rattle.example_nodes.specs.Outcome.{State}
use Rattle.example_nodes.specs.declared.node.Node.{Node}
use Rattle.example_nodes.specs.declared.parse.Parser.{Parser}

abbrev pub nodes_words : TinyVec (List Node) Node (UpTo 2) → List Word
nodes_words v = words_of (views (tiny_items v))

-- with a number that may go on
abbrev pub state_of : Parser → Option ℕ → State
state_of p number = record {
  words = followed_by opening (map nodes_words p.outer.items) ++ nodes_words p.nodes;
  depth = vec_len p.outer;
  last = number;
}
