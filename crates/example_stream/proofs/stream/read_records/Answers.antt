use Rattle.std.proofs.Common.{Err, ◌≡◌, ◌∙◌, ◌++◌, ◌∷◌, [], arith, refl, rules}
use Rattle.std.proofs.lemmas.Result.{err_from_is_err_and}
use Rattle.tinyvec_borsh.proofs.ReadItems.{read-next}
use Rattle.tinyvec_borsh.proofs.Tagged.{takes-tagged}
use Rattle.example_stream.specs.Errors.{stream_error}
use Rattle.example_stream.specs.Readings.{ReadingFits, SpellsReading, said}
use Rattle.example_stream.specs.Stream.{SpellsFrame, tag}
use Rattle.example_stream.specs.declared.stream_error.StreamError.TheVariants.{Memory}
use Rattle.example_stream.proofs.Frames.{ends-then, no-room, record-fails, tag-next}
use Rattle.example_stream.proofs.stream.read_records.Goals as goal

pub returns-in_err-has_next-clause-stands : goal.returns-in_err-has_next-clause-stands
returns-in_err-has_next-clause-stands g c =
    let p = err_from_is_err_and c.from_residual.result c.from_residual.ensures.1 in
    rw (p.1, p.2) (ends-then _ _ _ (Err c.in_err-has_next.field-0.0) _ _ _ refl c.loop-records.invariant.read c.in_err-has_next.ensures.next)

pub returns-in_default-clause-stands : goal.returns-in_default-clause-stands
returns-in_default-clause-stands g c =
    let byte = tag-next _ _ c.in_ok-has_next.field-0 c.if-branch.true c.in_ok-has_next.ensures.next in
    ends-then _ _ _ (Err Memory) _ _ _ c.reserve.ensures.items c.loop-records.invariant.read (no-room _ _ byte)

pub returns-in_err-reading-clause-stands : goal.returns-in_err-reading-clause-stands
returns-in_err-reading-clause-stands g c =
    let p = err_from_is_err_and c.from_residual-in_err-reading.result c.from_residual-in_err-reading.ensures.1 in
    let byte = tag-next _ _ c.in_ok-has_next.field-0 c.if-branch.true c.in_ok-has_next.ensures.next in
    let error = c.in_err-reading.field-0.0 in
    let fails = c.in_err-reading.ensures.fails in
    rw (p.1, p.2) (ends-then _ _ _ (Err (stream_error error)) _ _ _ c.reserve.ensures.items c.loop-records.invariant.read (record-fails _ _ byte _ _ _ error fails.err fails.taken))

pub loop-records-preserved : goal.loop-records-preserved
loop-records-preserved g c =
    let byte = tag-next _ _ c.in_ok-has_next.field-0 c.if-branch.true c.in_ok-has_next.ensures.next in
    let reading = c.in_ok-reading.reading in
    let pushed : c.push_reserved.new.self.items ≡ c.loop-records.records.items ++ reading ∷ [] = search rules in
    record {
      read = read-next said SpellsFrame ReadingFits _ _ _ reading _ _ _ c.loop-records.invariant.read (takes-tagged tag _ _ byte tag refl SpellsReading _ _ c.in_ok-reading.ensures.ok) c.in_ok-reading.ensures.valid pushed;
      grows = omega arith;
      failed = c.in_ok-reading.ensures.fails.failed.exact ∙ c.in_ok-has_next.ensures.failed.exact ∙ c.loop-records.invariant.failed;
    }
