use Rattle.std.proofs.Common.{◌≡◌, ◌+◌, ◌*◌, drop}
use Rattle.example_nodes.specs.Nodes.{view, views}
use Rattle.example_nodes.specs.Tree.{nodes, all_nodes, all_same}
use Rattle.example_nodes.proofs.node.+same.Given as goal

-- a list is looked at after its node
abbrev pub decreases-is_same : goal.decreases-is_same
decreases-is_same l = 2 * nodes (view l.one.now)

abbrev pub decreases-are_same : goal.decreases-are_same
decreases-are_same l = 2 * all_nodes (views l.some.now) + 1

-- what is left decides
abbrev pub invariant-are_same-loop-at : goal.invariant-are_same-loop-at
invariant-are_same-loop-at l = all_same (views (drop l.at l.some)) (views (drop l.at l.others)) ≡ all_same (views l.some) (views l.others)
