use Rattle.std.proofs.Common.{rules, arith, ap, sym, ◌∙◌, map}
use Rattle.std.proofs.lemmas.List.{length-map}
use Rattle.example_nodes.specs.Nodes.{view}
use Rattle.example_nodes.specs.Tree.{same, nodes}
use Rattle.example_nodes.proofs.Views.{view_items, nodes_items}
use Rattle.example_nodes.proofs.Counted.{one_of, unlike}
use Rattle.example_nodes.proofs.node.+same.Goals as goal

pub are_same-returns-then-some-others : goal.are_same-returns-then-some-others
are_same-returns-then-some-others t c =
    let some = c.args.some.now in
    let others = c.args.others.now in
    sym (unlike (map view some) (map view others) (λ e. c.if-some-others.true (sym (length-map some view) ∙ e ∙ length-map others view)))

pub are_same-is_same-requires : goal.are_same-is_same-requires
are_same-is_same-requires t c = (omega (arith, one_of c.args.some.now c.loop-at.at c.index-some-at.result c.loop-at-test.true, ap (λ n. nodes (view n)) c.index-some-at.is), tt)

pub is_same-are_same-requires : goal.is_same-are_same-requires
is_same-are_same-requires t c = (omega (arith, nodes_items c.args.one.now c.in-List-List.some c.as_slice.result.now c.in-List-List.is-0 (search rules)), tt)

pub is_same-returns-in-List-List : goal.is_same-returns-in-List-List
is_same-returns-in-List-List t c =
    let one = view_items c.args.one.now c.in-List-List.some c.as_slice.result.now c.in-List-List.is-0 (search rules) in
    let other = view_items c.args.other.now c.in-List-List.others c.as_slice-in-List-List.result.now c.in-List-List.is-1 (search rules) in
    c.are_same.ensures ∙ sym (λ i. same (one i) (other i))
