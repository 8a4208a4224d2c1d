use Rattle.std.proofs.Common.{rules, ap, ◌∙◌}
use Rattle.example_nodes.proofs.States.{bracket_opens}
use Rattle.tinyvec.specs.TinyVec.{tiny_items}
use Rattle.example_nodes.proofs.parse.Parser.open.Goals as goal

pub returns : goal.returns
returns c = (
  search rules,
  bracket_opens c.args.self.now record { outer = c.push.new.self; nodes = c.replace-before.new.dest } c.replace-before.result
      (search rules) (search rules) c.replace-before.ensures.value (ap tiny_items c.replace-before.ensures.after ∙ c.new.ensures.items),
)
