use Rattle.std.proofs.Common.{rules, ◌≡◌, None, false, subst}
use Rattle.std.specs.Char.{is_ascii_digit}
use Rattle.example_nodes.specs.Outcome.{sign, sign_fault}
use Rattle.example_nodes.specs.Parsers.{state_of}
use Rattle.example_nodes.proofs.Steps.{next_by, fault_by}
use Rattle.example_nodes.proofs.parse.Parser.step.Goals as goal

pub returns : goal.returns
returns c =
    let byte = c.args.byte in
    let s = state_of c.args.self.now c.args.number in
    let no_digit : is_ascii_digit byte ≡ false = search rules in
    rw (fault_by s byte no_digit, next_by s byte no_digit)
    (subst (λ m. (sign_fault m byte ≡ None) × (state_of c.sign.new.self None ≡ sign m byte)) c.in_ok-end_number.ensures c.in_ok-sign.ensures)
