use Rattle.std.proofs.Common.{◌≡◌, ◌+◌, ◌*◌, ◌++◌, drop, false, nat_lt, string_bytes}
use Rattle.example_nodes.specs.Words.{words_text_after}
use Rattle.example_nodes.specs.Nodes.{view, views}
use Rattle.example_nodes.specs.Tree.{nodes, all_nodes, words_of}
use Rattle.example_nodes.proofs.print.+print.Given as goal

abbrev pub decreases-push_node : goal.decreases-push_node
decreases-push_node l = 2 * nodes (view l.node.now)

abbrev pub decreases-push_trees : goal.decreases-push_trees
decreases-push_trees l = 2 * all_nodes (views l.trees.now) + 1

-- the text, and what is left
abbrev pub invariant-push_trees-loop-at : goal.invariant-push_trees-loop-at
invariant-push_trees-loop-at l =
    string_bytes l.text ++ words_text_after (nat_lt 0 l.at) (words_of (views (drop l.at l.trees)))
    ≡ string_bytes l.initial.text ++ words_text_after false (words_of (views l.trees))
