use Rattle.std.proofs.Common.{rules}
use Rattle.tinyvec_slots.proofs.ClonesOverLemmas.{refused_writes, writes_joined}
use Rattle.tinyvec_slots.proofs.tuned.cloning.clone_block_and_rest.Goals as goal

pub returns-in_err-clone_block : goal.returns-in_err-clone_block
returns-in_err-clone_block g c =
    let h = c.in_err-clone_block.ensures.refused in
    refused_writes g.T.Clone c.from_residual.result _ c.args.from.now h.0 (search rules) h.1 h.2

pub returns : goal.returns
returns g c =
    let first = c.clone_block in
    let rest = c.clone_each in
    writes_joined g.T.Clone rest.result c.args.from.now c.args.to.now first.new.to rest.new.to g.row.N c.requires.fits first.auto.to c.requires.enough c.in_ok-clone_block.ensures.cloned rest.ensures
