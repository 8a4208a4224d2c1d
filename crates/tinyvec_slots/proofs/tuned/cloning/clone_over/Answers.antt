use Rattle.std.proofs.Common.{rules}
use Rattle.tinyvec_slots.proofs.ClonesOverLemmas.{refused_writes, writes_joined}
use Rattle.tinyvec_slots.proofs.tuned.cloning.clone_over.Goals as goal

pub returns-in_err-done : goal.returns-in_err-done
returns-in_err-done g c =
    let h = c.in_err-done.ensures.refused in
    refused_writes g.T.Clone c.from_residual.result _ c.args.from.now h.0 (search rules) h.1 h.2

pub returns : goal.returns
returns g c =
    let first = c.clone_blocks in
    let done = c.in_ok-done in
    let rest = c.clone_each-2 in
    writes_joined g.T.Clone rest.result c.args.from.now c.args.to.now first.new.to rest.new.to done.done c.requires.fits first.auto.to done.ensures.within done.ensures.cloned rest.ensures
