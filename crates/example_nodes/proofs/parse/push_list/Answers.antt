use Rattle.std.proofs.Common.{rules, ◌≡◌, ◌∙◌, ap}
use Rattle.tinyvec.specs.TinyVec.{tiny_items}
use Rattle.example_nodes.specs.Nodes.{views}
use Rattle.example_nodes.specs.Tree.{list}
use Rattle.example_nodes.specs.declared.node.Node.TheVariants.{List as Listed}
use Rattle.example_nodes.proofs.Views.{view_list}
use Rattle.example_nodes.proofs.States.{nodes_push}
use Rattle.example_nodes.proofs.parse.push_list.Goals as goal

pub returns : goal.returns
returns c =
    let boxed = c.in_ok-new.field-0 in
    let value : boxed.value ≡ c.args.items = search rules in
    nodes_push c.args.nodes.now c.push.new.self (Listed boxed) (list (views (tiny_items c.args.items))) (search rules) (view_list boxed ∙ ap (λ v. list (views (tiny_items v))) value)
