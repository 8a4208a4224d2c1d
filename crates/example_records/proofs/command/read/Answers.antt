use Rattle.std.proofs.Common.{◌≡◌, ◌<◌, refl, rules, length, map}
use Rattle.std.proofs.lemmas.List.{nil_from_length}
use Rattle.example_records.specs.Commands.{HasTag, IsRead}
use Rattle.example_records.specs.Commands.Command.{Read}
use Rattle.example_stream.specs.Readings.{said}
use Rattle.example_records.proofs.CommandLaws.{read_as, read_empty, read_no_tag, read_refused}
use Rattle.example_records.proofs.command.read.Goals as goal

pub returns-then-is_empty-clause-answers : goal.returns-then-is_empty-clause-answers
returns-then-is_empty-clause-answers c =
    let none : length c.args.rest.now ≡ 0 = search rules in
    let stream : length c.args.stream.now ≡ 0 = search rules in
    let read : IsRead c.args.stream.now (map said c.no_records.result.records.items) c.no_records.result.end = rw (nil_from_length c.args.stream.now stream, c.no_records.ensures.records, c.no_records.ensures.end) read_empty in
    record {
      carried_out = read_as c.args.rest.now c.args.stream.now c.no_records.result read;
      is_command = (Read, (refl, nil_from_length c.args.rest.now none));
      refused = tt;
    }

pub returns-then-not-has_tag-clause-answers : goal.returns-then-not-has_tag-clause-answers
returns-then-not-has_tag-clause-answers c =
    let none : length c.args.rest.now ≡ 0 = search rules in
    let some : 0 < length c.args.stream.now = search rules in
    let no_tag : HasTag c.args.stream.now → ⊥ = search rules in
    let made = c.no_records-then-not-has_tag in
    let read : IsRead c.args.stream.now (map said made.result.records.items) made.result.end = rw (made.ensures.records, made.ensures.end) (read_no_tag c.args.stream.now some no_tag) in
    record {
      carried_out = read_as c.args.rest.now c.args.stream.now made.result read;
      is_command = (Read, (refl, nil_from_length c.args.rest.now none));
      refused = tt;
    }

pub returns-in-Ok-clause-answers : goal.returns-in-Ok-clause-answers
returns-in-Ok-clause-answers c =
    let none : length c.args.rest.now ≡ 0 = search rules in
    let read : IsRead c.args.stream.now (map said c.in-Ok.recovered.records.items) c.in-Ok.recovered.end = search rules in
    record {
      carried_out = read_as c.args.rest.now c.args.stream.now c.in-Ok.recovered read;
      is_command = (Read, (refl, nil_from_length c.args.rest.now none));
      refused = tt;
    }

pub returns-in-Err-clause-answers : goal.returns-in-Err-clause-answers
returns-in-Err-clause-answers c =
    let has : HasTag c.args.stream.now = search rules in
    record { carried_out = read_refused c.args.rest.now c.args.stream.now has; is_command = tt; refused = refl }
