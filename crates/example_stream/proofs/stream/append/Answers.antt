use Rattle.std.proofs.lemmas.Result.{err_from_is_err_and}
use Rattle.tinyvec_borsh.specs.NumberLaws.{number_code}
use Rattle.tinyvec_borsh.proofs.AtFaults.{writes-both, writes-first}
use Rattle.std.proofs.Common.{lit<}
use Rattle.example_stream.specs.Readings.{SpellsReading}
use Rattle.example_stream.specs.Stream.{tag}
use Rattle.example_stream.proofs.Frames.{writes-tagged}
use Rattle.example_stream.proofs.stream.append.Goals as goal

pub returns-in_err-serialize-clause-writes : goal.returns-in_err-serialize-clause-writes
returns-in_err-serialize-clause-writes g c =
    let p = err_from_is_err_and c.from_residual.result c.from_residual.ensures.1 in
    rw (p.1, p.2) (writes-tagged SpellsReading _ _ (writes-first c.in_err-serialize.ensures.writes))

pub returns-clause-writes : goal.returns-clause-writes
returns-clause-writes g c =
    writes-tagged SpellsReading _ c.serialize-2.result (writes-both c.serialize-2.result ((number_code 1 (lit< tt)).one_spelling tag) c.in_ok-serialize.ensures.writes c.serialize-2.ensures.writes)
