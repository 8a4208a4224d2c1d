use Rattle.std.proofs.Common.{lit<, subst, false, None}
use Rattle.std.proofs.lemmas.Result.{err_from_is_err_and}
use Rattle.std.proofs.lemmas.List.{map-id}
use Rattle.tinyvec_array.specs.ArrayVec.{items}
use Rattle.tinyvec.specs.TinyVec.{tiny_items}
use Rattle.tinyvec_borsh.specs.Number.{SpellsNumber, TooFewBytes}
use Rattle.tinyvec_borsh.specs.NumberLaws.{number_apart}
use Rattle.example_stream.specs.Readings.{ListsReason, NoteReason, SamplesFit, SamplesReason, SpellsNote, SpellsSamples, StationFits, samples_apart}
use Rattle.tinyvec_borsh.specs.Both.{SpellsBoth}
use Rattle.tinyvec_borsh.proofs.Both.{fails-first, fails-second, takes-both}
use Rattle.example_stream.proofs.reading.ReadingBorshDeserialize.deserialize_reader.Goals as goal

pub returns-in_err-station-clause-fails : goal.returns-in_err-station-clause-fails
returns-in_err-station-clause-fails g c =
    let p = err_from_is_err_and c.from_residual.result c.from_residual.ensures.1 in
    rw (p.1, p.2) (fails-first (SpellsNumber 4) StationFits (TooFewBytes 4) ListsReason c.in_err-station.ensures.fails)

pub returns-in_err-samples-clause-fails : goal.returns-in_err-samples-clause-fails
returns-in_err-samples-clause-fails g c =
    let p = err_from_is_err_and c.from_residual-in_err-samples.result c.from_residual-in_err-samples.ensures.1 in
    let station = c.in_ok-station.ensures in
    rw (p.1, p.2) (fails-second (SpellsNumber 4) StationFits (TooFewBytes 4) ListsReason (number_apart 4 (lit< tt) StationFits).front_is_cut _ station.ok station.valid station.fails.grows station.fails.failed.exact
    (fails-first SpellsSamples SamplesFit SamplesReason NoteReason {U = Unit {0}} c.in_err-samples.ensures.fails))

pub returns-in_err-note-clause-fails : goal.returns-in_err-note-clause-fails
returns-in_err-note-clause-fails g c =
    let p = err_from_is_err_and c.from_residual-in_err-note.result c.from_residual-in_err-note.ensures.1 in
    let station = c.in_ok-station.ensures in
    let samples = c.in_ok-samples.ensures in
    let same = map-id (items c.in_ok-samples.samples) in
    rw (p.1, p.2) (fails-second (SpellsNumber 4) StationFits (TooFewBytes 4) ListsReason (number_apart 4 (lit< tt) StationFits).front_is_cut _ {mid = record { inner = _; faults = _; last_fault = None; failed = _; flushed = false }} station.ok station.valid station.fails.grows station.fails.failed.exact
    (fails-second SpellsSamples SamplesFit SamplesReason NoteReason {U = Unit {0}} samples_apart.front_is_cut _ (rw same at samples.ok) (subst SamplesFit same samples.valid) samples.fails.grows samples.fails.failed.exact c.in_err-note.ensures.fails))

pub returns-clause-ok : goal.returns-clause-ok
returns-clause-ok g c =
    let samples = map-id (items c.in_ok-samples.samples) in
    let note = map-id (tiny_items c.in_ok-note.note) in
    takes-both (SpellsNumber 4) (SpellsBoth SpellsSamples SpellsNote) _ _ _ _ _ c.in_ok-station.ensures.ok
    (takes-both SpellsSamples SpellsNote _ _ _ _ _ (rw samples at c.in_ok-samples.ensures.ok) (rw note at c.in_ok-note.ensures.ok))

pub returns-clause-valid : goal.returns-clause-valid
returns-clause-valid g c =
    let samples = map-id (items c.in_ok-samples.samples) in
    let note = map-id (tiny_items c.in_ok-note.note) in
    (c.in_ok-station.ensures.valid, (subst SamplesFit samples c.in_ok-samples.ensures.valid, rw note at c.in_ok-note.ensures.valid))
