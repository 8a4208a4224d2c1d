use Rattle.std.proofs.Common.{◌≡◌, ◌≢◌, Err, rules}
use Rattle.example_stream.specs.declared.stream_error.StreamError.TheVariants.{Io}
use Rattle.example_records.proofs.CommandLaws.{is_read}
use Rattle.example_records.proofs.command.recover.Goals as goal

pub returns-in_default : goal.returns-in_default
returns-in_default c =
    let given : c.new.result.inner.now ≡ c.args.stream.now = search rules in
    let none : c.read_all-recovered.result.end ≢ Err Io = search rules in
    is_read c.args.stream.now _ _ _ _ _ given none c.read_all-recovered.ensures.stands c.read_all-recovered.ensures.valid c.read_all-recovered.ensures.all
