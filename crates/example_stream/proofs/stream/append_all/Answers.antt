use Rattle.std.proofs.Common.{◌∙◌, ◌∷◌, arith, drop, map, rules, suc, take}
use Rattle.std.proofs.lemmas.Result.{err_from_is_err_and}
use Rattle.tinyvec_borsh.proofs.AtFaults.{fault-since, front-first, front-items, parts_at}
use Rattle.tinyvec_borsh.proofs.ItemByItem.{failed-since, fit-next, wrote-next}
use Rattle.example_stream.specs.Readings.{ReadingFits, said}
use Rattle.example_stream.specs.Stream.{SpellsFrame}
use Rattle.example_stream.proofs.FrameLaws.{frame_code}
use Rattle.example_stream.proofs.stream.append_all.Goals as goal

pub loop-reading-preserved : goal.loop-reading-preserved
loop-reading-preserved g c = record {
  wrote = wrote-next SpellsFrame said _ _ c.reading-item.result _ _ _ (omega arith) (search rules) c.loop-reading.invariant.wrote c.in_ok-append.ensures.writes.ok;
  fit = fit-next said ReadingFits _ _ c.reading-item.result (omega arith) (search rules) c.loop-reading.invariant.fit c.in_ok-append.ensures.valid;
  grows = omega arith;
  failed = c.in_ok-append.ensures.writes.failed.exact ∙ c.loop-reading.invariant.failed;
}

pub returns-in_err-append-clause-writes : goal.returns-in_err-append-clause-writes
returns-in_err-append-clause-writes g c =
    let p = err_from_is_err_and c.from_residual.result c.from_residual.ensures.1 in
    let reading = c.reading-item.result in
    let i = c.loop-reading.reading-index in
    let failed = c.in_err-append.ensures.writes in
    rw (p.1, p.2) (record {
      ok = tt;
      err = fault-since c.loop-reading.invariant.grows failed.err;
      front = front-items SpellsFrame frame_code (map said (take i c.args.readings.now)) (said reading ∷ map said (drop (suc i) c.args.readings.now)) _ _ _ _
          (parts_at said c.args.readings.now i reading (omega arith) (search rules)) c.loop-reading.invariant.wrote (front-first _ _ failed.front);
      grows = omega arith;
      failed = failed-since c.loop-reading.invariant.failed failed.failed;
    })
