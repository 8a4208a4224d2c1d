use Rattle.std.proofs.Common.{rules, ◌++◌, ◌∷◌, [], ◌∙◌}
use Rattle.example_nodes.specs.Words.{opening, closing}
use Rattle.example_nodes.specs.Parsers.{nodes_words}
use Rattle.example_nodes.proofs.States.{bracket_closes, is_open}
use Rattle.example_nodes.proofs.parse.Parser.close.Goals as goal

pub returns : goal.returns
returns c =
    let now = c.args.self.now in (
      is_open _ (search rules),
      bracket_closes now record { outer = c.pop.new.self; nodes = c.push_list.new.nodes } c.in-Some.before c.in-Some.ensures.items (search rules)
          (c.in_ok-push_list.ensures ∙ (λ i. nodes_words (c.replace-items.ensures.after i) ++ opening ∷ (nodes_words (c.replace-items.ensures.value i) ++ closing ∷ []))),
    )
