use Rattle.std.proofs.Common.{refl}
use Rattle.tinyvec_slots.proofs.FillingLemmas.{drained, drained_all}
use Rattle.tinyvec.proofs.PlaceLemmas.{ok_of}
use Rattle.tinyvec.proofs.tiny_vec.extending.TinyVec+A.extend_exact_size.Goals as goal

pub returns-clause-listed : goal.returns-clause-listed
returns-clause-listed g c = λ rest shows.
    let it = c.into_iter-items.result in
    let ran = c.in-Ok.ensures.fills.ran in
    let grown = ok_of c.reserve.result c.if-is_err.ensures.value c.reserve.ensures.ok in
    (it, c.into_iter-items.ensures.into_iter_gives, rw (ran.2, grown.items, drained g.I.IntoIter.Iterator.next_gives rest shows it ran.0 ran.1.0 ran.1.1) refl)

pub returns-clause-known : goal.returns-clause-known
returns-clause-known g c = λ xs yields.
    let it = c.into_iter-items.result in
    let ran = c.in-Ok.ensures.fills.ran in
    let grown = ok_of c.reserve.result c.if-is_err.ensures.value c.reserve.ensures.ok in
    rw (ran.2, grown.items, drained_all g.I.IntoIter.Iterator.next_gives xs it (yields it c.into_iter-items.ensures.into_iter_gives) ran.0 ran.1.0 ran.1.1) refl
