use Rattle.std.proofs.Common.{rules, ◌≡◌, ◌∙◌, ◌==◌, length, sym}
use Rattle.std.proofs.lemmas.Bool.{eqb-true}
use Rattle.example_nodes.specs.Outcome.{ended}
use Rattle.example_nodes.specs.Parsers.{state_of}
use Rattle.example_nodes.specs.declared.parse_error.Fault.TheVariants.{NotClosed}
use Rattle.example_nodes.proofs.States.{all_closed}
use Rattle.example_nodes.proofs.Steps.{none_demanded}
use Rattle.example_nodes.proofs.parse.Parser.finish.Goals as goal

pub returns-clause-right : goal.returns-clause-right
returns-clause-right c =
    let outer = c.end_number.new.self.outer.items in
    let empty : c.is_empty.result ≡ (length outer == 0) = search rules in
    all_closed c.end_number.new.self (ended (state_of c.args.self c.args.number)) c.in_ok-end_number.ensures
    (eqb-true (length outer) 0 (sym empty ∙ none_demanded c.is_empty.result NotClosed c.in_ok-demand.ensures.ok))
