use Rattle.std.proofs.Common.{ap, arith}
use Rattle.tinyvec.specs.TinyVec.{tiny_items}
use Rattle.example_nodes.specs.Nodes.{views}
use Rattle.example_nodes.specs.Parsers.{nodes_words}
use Rattle.example_nodes.specs.Words.{beginnings}
use Rattle.example_nodes.proofs.Counted.{beginnings_of}
use Rattle.example_nodes.proofs.Flattened.{few_leaves}
use Rattle.example_nodes.proofs.flatten.parse_nodes.Goals as goal

pub returns-clause-fits : goal.returns-clause-fits
returns-clause-fits c =
    let old = c.in_ok-nodes.nodes in
    let new = c.flatten.new.nodes in
    omega (
      arith,
      few_leaves (nodes_words old),
      ap beginnings c.in_ok-flatten.ensures.same_leaves,
      beginnings_of (views (tiny_items old)),
      beginnings_of (views (tiny_items new)),
      c.in_ok-nodes.ensures.fits,
    )
