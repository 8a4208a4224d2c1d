use Rattle.std.proofs.Common.{◌≡◌, ◌+◌, ◌*◌, drop}
use Rattle.example_nodes.specs.Nodes.{view, views}
use Rattle.example_nodes.specs.Tree.{nodes, all_nodes}
use Rattle.example_nodes.proofs.count.+count.Given as goal

abbrev pub decreases-count_node : goal.decreases-count_node
decreases-count_node l = 2 * nodes (view l.node.now)

abbrev pub decreases-count : goal.decreases-count
decreases-count l = 2 * all_nodes (views l.trees.now) + 1

abbrev pub invariant-count-loop-tree : goal.invariant-count-loop-tree
invariant-count-loop-tree l = l.counted + all_nodes (views (drop l.tree-index l.trees)) ≡ all_nodes (views l.trees)
