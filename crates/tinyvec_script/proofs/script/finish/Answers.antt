use Rattle.tinyvec_script.proofs.Written.{sends_then, writes_flushed}
use Rattle.tinyvec_script.proofs.script.finish.Goals as goal

pub returns-in-Ok-clause-writes : goal.returns-in-Ok-clause-writes
returns-in-Ok-clause-writes g c =
    let answered = rw c.requires at c.answer_last.ensures in
    let flushed = c.flush.ensures in
    (answered.0, writes_flushed c.flush.result c.in-Ok.is (sends_then answered.1 c.send.ensures) flushed.bytes flushed.faults flushed.failed, answered.2)

pub returns-in-Err-clause-writes : goal.returns-in-Err-clause-writes
returns-in-Err-clause-writes g c =
    let answered = rw c.requires at c.answer_last.ensures in
    (answered.0, rw c.in-Err.is at (sends_then answered.1 c.send.ensures), answered.2)
