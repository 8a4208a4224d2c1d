use Rattle.std.proofs.Common.{◌≡◌, ◌≢◌, Err, refl, rules, length, map}
use Rattle.std.proofs.lemmas.List.{nil_from_length}
use Rattle.example_records.specs.Commands.{HasTag, IsRead, IsReadOfCopy}
use Rattle.example_records.specs.Commands.Command.{Copy}
use Rattle.example_stream.specs.Readings.{said}
use Rattle.example_stream.specs.Stream.{IsCopy}
use Rattle.example_stream.specs.declared.stream_error.StreamError.TheVariants.{Memory}
use Rattle.example_records.proofs.CommandLaws.{copied_as, copy_none}
use Rattle.example_records.proofs.command.copy.Goals as goal

pub returns-in-Ok-copied-clause-answers : goal.returns-in-Ok-copied-clause-answers
returns-in-Ok-copied-clause-answers c =
    let none : length c.args.rest.now ≡ 0 = search rules in
    let read = c.in-Ok.recovered in
    let first : IsRead c.args.stream.now (map said read.records.items) read.end = search rules in
    let told : read.end ≢ Err Memory = search rules in
    let copied : IsCopy (map said read.records.items) (map said c.in-Ok-copied.copy.records.items) c.in-Ok-copied.copy.end = search rules in
    record {
      carried_out = copied_as c.args.rest.now c.args.stream.now c.in-Ok-copied.copy record { records = map said read.records.items; records_end = read.end; first = first; told = told; copied = copied };
      is_command = (Copy, (refl, nil_from_length c.args.rest.now none));
      refused = tt;
    }

pub returns-then-not-has_tag-clause-answers : goal.returns-then-not-has_tag-clause-answers
returns-then-not-has_tag-clause-answers c =
    let stream = c.args.stream.now in
    let none : length c.args.rest.now ≡ 0 = search rules in
    let no_tag : HasTag stream → ⊥ = search rules in
    let made = c.no_records in
    let read : IsReadOfCopy stream (map said made.result.records.items) made.result.end = rw (made.ensures.records, made.ensures.end) (copy_none stream no_tag) in
    record {
      carried_out = copied_as c.args.rest.now stream made.result read;
      is_command = (Copy, (refl, nil_from_length c.args.rest.now none));
      refused = tt;
    }
