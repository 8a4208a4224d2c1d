use Rattle.std.proofs.Common.{◌≡◌, ◌≤◌, sym, refl, rules, length, take}
use Rattle.example_records.specs.Commands.{IsDecimal}
use Rattle.example_records.specs.Commands.Command.{Cut}
use Rattle.example_records.proofs.CommandLaws.{cut_to}
use Rattle.example_records.proofs.command.cut.Goals as goal

pub returns-in-Ok-clause-answers : goal.returns-in-Ok-clause-answers
returns-in-Ok-clause-answers c =
    let parsed = c.in-Ok.ensures.value.0 in
    let is : IsDecimal c.args.text.now c.in-Ok.len = record { numeral = parsed.0.0; value = sym parsed.1 } in
    let inside : c.in-Ok.len ≤ length c.args.stream.now.items = search rules in
    let kept : c.truncate.new.self.items ≡ take c.in-Ok.len c.args.stream.now.items = search rules in
    record {
      carried_out = cut_to c.args.text.now _ _ c.in-Ok.len is inside kept;
      is_command = (Cut c.in-Ok.len, (refl, is));
      refused = tt;
    }
