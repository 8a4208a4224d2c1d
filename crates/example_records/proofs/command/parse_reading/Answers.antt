use Rattle.std.proofs.Common.{inl, refl, rules}
use Rattle.std.proofs.lemmas.Result.{err_from_is_err_and}
use Rattle.tinyvec_array.specs.ArrayVec.{items}
use Rattle.example_records.specs.Commands.{AreSamples, HasStation, rest_of, word_of}
use Rattle.example_records.proofs.command.parse_reading.Goals as goal

pub returns-in_err-note-clause-tells : goal.returns-in_err-note-clause-tells
returns-in_err-note-clause-tells c =
    let station : HasStation c.args.text.now = search rules in
    let samples : AreSamples (word_of (rest_of c.args.text.now)) (items c.in_ok-samples.samples) = search rules in
    let p = err_from_is_err_and c.from_residual-in_err-note.result c.from_residual-in_err-note.ensures.1 in
    rw (p.1, p.2) (inl (refl, (station, (items c.in_ok-samples.samples, samples))))
