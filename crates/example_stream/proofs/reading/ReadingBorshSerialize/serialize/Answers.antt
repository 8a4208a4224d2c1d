use Rattle.std.proofs.Common.{lit<, subst}
use Rattle.std.proofs.lemmas.List.{map-id}
use Rattle.tinyvec.specs.TinyVec.{tiny_items}
use Rattle.tinyvec_array.specs.ArrayVec.{items}
use Rattle.example_stream.specs.Readings.{NoteFits, SamplesFit}
use Rattle.std.proofs.lemmas.Result.{err_from_is_err_and, on_ok_weaker}
use Rattle.tinyvec_borsh.specs.NumberLaws.{number_code}
use Rattle.example_stream.specs.Readings.{samples_code}
use Rattle.tinyvec_borsh.proofs.AtFaults.{writes-both, writes-first}
use Rattle.example_stream.proofs.reading.ReadingBorshSerialize.serialize.Goals as goal

pub returns-in_err-serialize-clause-writes : goal.returns-in_err-serialize-clause-writes
returns-in_err-serialize-clause-writes g c =
    let p = err_from_is_err_and c.from_residual.result c.from_residual.ensures.1 in
    rw (p.1, p.2) (writes-first c.in_err-serialize.ensures.writes)

pub returns-in_err-serialize-2-clause-writes : goal.returns-in_err-serialize-2-clause-writes
returns-in_err-serialize-2-clause-writes g c =
    let p = err_from_is_err_and c.from_residual-in_err-serialize-2.result c.from_residual-in_err-serialize-2.ensures.1 in
    let samples = map-id (items c.args.self.now.samples) in
    rw (p.1, p.2) (writes-both _ ((number_code 4 (lit< tt)).one_spelling c.args.self.now.station) c.in_ok-serialize.ensures.writes (writes-first (rw samples at c.in_err-serialize-2.ensures.writes)))

pub returns-clause-writes : goal.returns-clause-writes
returns-clause-writes g c =
    let samples = map-id (items c.args.self.now.samples) in
    let note = map-id (tiny_items c.args.self.now.note) in
    writes-both c.serialize-3.result ((number_code 4 (lit< tt)).one_spelling c.args.self.now.station) c.in_ok-serialize.ensures.writes
    (writes-both c.serialize-3.result (samples_code.one_spelling (items c.args.self.now.samples)) (rw samples at c.in_ok-serialize-2.ensures.writes) (rw note at c.serialize-3.ensures.writes))

pub returns-clause-valid : goal.returns-clause-valid
returns-clause-valid g c =
    on_ok_weaker c.serialize-3.result (λ fits. (c.in_ok-serialize.ensures.valid, (subst SamplesFit (map-id _) c.in_ok-serialize-2.ensures.valid, subst NoteFits (map-id _) fits))) c.serialize-3.ensures.valid
