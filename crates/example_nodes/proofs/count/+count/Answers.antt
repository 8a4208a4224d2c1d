use Rattle.std.proofs.Common.{rules, arith}
use Rattle.example_nodes.proofs.Views.{nodes_items}
use Rattle.example_nodes.proofs.count.+count.Goals as goal

pub count_node-count-requires : goal.count_node-count-requires
count_node-count-requires t c =
    let all = nodes_items c.args.node.now c.in-List.items c.as_slice.result.now c.in-List.is (search rules) in
    (omega (arith, all), omega (arith, all, c.requires.fits))

pub count_node-overflow_add-result : goal.count_node-overflow_add-result
count_node-overflow_add-result t c =
    omega (arith, c.requires.fits, c.count.ensures, nodes_items c.args.node.now c.in-List.items c.as_slice.result.now c.in-List.is (search rules))

pub count_node-returns-in-List : goal.count_node-returns-in-List
count_node-returns-in-List t c =
    omega (arith, c.count.ensures, nodes_items c.args.node.now c.in-List.items c.as_slice.result.now c.in-List.is (search rules))
