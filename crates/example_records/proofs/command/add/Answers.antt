use Rattle.std.proofs.Common.{◌<◌, ◌^◌, inl, refl, rules}
use Rattle.std.proofs.lemmas.Result.{err_from_is_err_and}
use Rattle.example_records.specs.Commands.{IsRecord}
use Rattle.example_records.specs.Commands.Command.{Add}
use Rattle.example_stream.specs.Readings.{said}
use Rattle.example_records.proofs.CommandLaws.{added}
use Rattle.example_records.proofs.command.add.Goals as goal

pub returns-clause-answers : goal.returns-clause-answers
returns-clause-answers c =
    let wrote = c.in_ok-append_to.ensures.ok in
    let is : IsRecord c.args.text.now (said c.in_ok-reading.reading) = search rules in
    record {
      carried_out = added c.args.text.now _ _ (said c.in_ok-reading.reading) wrote.0 is wrote.2 wrote.1 wrote.3;
      is_command = (Add (said c.in_ok-reading.reading), (refl, (is, wrote.2)));
      refused = tt;
    }

pub returns-in_err-append_to-clause-tells : goal.returns-in_err-append_to-clause-tells
returns-in_err-append_to-clause-tells c =
    let reading = c.in_ok-reading.reading in
    let is : IsRecord c.args.text.now (said reading) = search rules in
    let small : reading.station < 2 ^ 32 = search rules in
    let p = err_from_is_err_and c.from_residual-in_err-append_to.result c.from_residual-in_err-append_to.ensures.1 in
    rw (p.1, p.2) (inl (refl, ((reading.station, is.station, small), ((said reading).1.0, is.samples))))
