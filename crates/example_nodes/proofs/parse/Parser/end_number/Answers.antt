use Rattle.std.proofs.Common.{◌≡◌, None, refl, rules, subst, sym}
use Rattle.example_nodes.specs.Outcome.{ended}
use Rattle.example_nodes.specs.Parsers.{state_of}
use Rattle.example_nodes.specs.declared.parse.Parser.{Parser}
use Rattle.example_nodes.proofs.States.{number_ends}
use Rattle.example_nodes.proofs.parse.Parser.end_number.Goals as goal

pub returns-in_ok-push : goal.returns-in_ok-push
returns-in_ok-push c =
    let old = c.args.self.now in
    let new : Parser = record { outer = old.outer; nodes = c.push.new.self } in
    subst (λ number. state_of new None ≡ ended (state_of old number)) (sym c.in-Some.is) (number_ends old new c.in-Some.number refl (search rules))
