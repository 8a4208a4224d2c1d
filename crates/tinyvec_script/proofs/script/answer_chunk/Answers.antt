use Rattle.tinyvec_script.proofs.Written.{sends_then}
use Rattle.tinyvec_script.proofs.script.answer_chunk.Goals as goal

pub returns : goal.returns
returns g c =
    let fed = rw c.requires at c.feed.ensures in
    record { writes = (fed.0, sends_then fed.1 c.send.ensures, fed.2); gathered = c.send.ensures.empty }
