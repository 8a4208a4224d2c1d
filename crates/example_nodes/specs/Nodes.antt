-- The tree of a node.
use Rattle.std.specs.Prelude.{◌≡◌, ℕ, List, map}
use Rattle.tinyvec.specs.TinyVec.{tiny_items}
use Rattle.example_nodes.specs.Tree.{Tree, leaf, list, Trees, trees_of}
use Rattle.example_nodes.specs.declared.node.Node.{Node, fold-Node}
use Rattle.example_nodes.specs.declared.node.Node.TheOpen.{Node-F}

-- of one node, with the tree of each node of its list in its place
abbrev pub view_step : Node-F Tree → Tree
view_step (Node-F.Number n) = leaf n
view_step (Node-F.List items) = list (trees_of (tiny_items items.value))

abbrev pub view : Node → Tree
view = fold-Node Tree view_step

abbrev pub views : List Node → Trees
views ns = trees_of (map view ns)

abbrev pub IsNumber : Node → Type 0
IsNumber node = (n : ℕ) × (view node ≡ leaf n)
