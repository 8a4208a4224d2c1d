use Rattle.std.proofs.Common.{rules, arith, string_bytes, nat_lt, drop, ◌+◌, ◌∙◌, ap, sym}
use Rattle.std.proofs.lemmas.Bool.{lt-ltb}
use Rattle.example_nodes.specs.Nodes.{view, views}
use Rattle.example_nodes.specs.Tree.{nodes, more}
use Rattle.example_nodes.proofs.Views.{view_items, nodes_items}
use Rattle.example_nodes.proofs.Counted.{from, one_of}
use Rattle.example_nodes.proofs.Spelled.{listed, written}
use Rattle.example_nodes.proofs.print.+print.Goals as goal

pub push_node-push_trees-requires : goal.push_node-push_trees-requires
push_node-push_trees-requires t c = (omega (arith, nodes_items c.args.node.now c.in-List.items c.as_slice.result.now c.in-List.is (search rules)), tt)

pub push_node-returns-in_ok-push_trees-in-List : goal.push_node-returns-in_ok-push_trees-in-List
push_node-returns-in_ok-push_trees-in-List t c =
    let all = listed (string_bytes c.args.text.now) (string_bytes c.push_str.new.self) (string_bytes c.push_trees.new.text) (view c.args.node.now) (views c.as_slice.result.now)
    (view_items c.args.node.now c.in-List.items c.as_slice.result.now c.in-List.is (search rules)) c.in_ok-push_str-in-List.ensures.bytes c.in_ok-push_trees-in-List.ensures in
    search (rules, all)

pub push_trees-push_node-requires : goal.push_trees-push_node-requires
push_trees-push_node-requires t c = (omega (arith, one_of c.args.trees.now c.loop-at.at c.index-trees-at.result c.loop-at-test.true, ap (λ n. nodes (view n)) c.index-trees-at.is), tt)

pub push_trees-loop-at-preserved : goal.push_trees-loop-at-preserved
push_trees-loop-at-preserved t c =
    let at = c.loop-at.at in
    let trees = c.args.trees.now in
    written _ (string_bytes c.loop-at.text) (string_bytes c.push_blank.new.text) (string_bytes c.push_node.new.text) (nat_lt 0 at) (nat_lt 0 (at + 1))
    (view c.index-trees-at.result) (views (drop (at + 1) trees)) (views (drop at trees))
    c.in_ok-push_blank.ensures c.in_ok-push_node.ensures
    (from trees at c.index-trees-at.result c.loop-at-test.true ∙ ap (λ n. more (view n) (views (drop (at + 1) trees))) (sym c.index-trees-at.is)) (lt-ltb 0 (at + 1) (omega arith)) c.loop-at.invariant
