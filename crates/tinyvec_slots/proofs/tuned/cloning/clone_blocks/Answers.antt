use Rattle.std.proofs.Common.{◌≤◌, ◌-◌, take, drop, length, ◌∙◌, rules, refl, zero-le}
use Rattle.tinyvec_slots.proofs.CloneLemmas.{on_err}
use Rattle.tinyvec_slots.proofs.ClonesOverLemmas.{clones_none, clones_further, clones_in_part}
use Rattle.tinyvec_slots.proofs.tuned.cloning.clone_blocks.Goals as goal
use borrow.Rule.Slice.PartMut.{same_len_mid}

pub loop-done-preserved : goal.loop-done-preserved
loop-done-preserved g c =
    let inv = c.loop-done.invariant in
    let from = c.args.from.now in
    let done = c.loop-done.done in
    let to = c.loop-done.to in
    let rest = take (length from - done) (drop done from) in
    let enough : g.row.N ≤ length rest = search rules in
    let next = clones_further g.T.Clone.is_clone from c.args.to.now to c.clone_block.new.to done c.requires.fits inv.2 inv.0 inv.1 g.row.N enough c.in_ok-clone_block.ensures.cloned in
    (next.0, next.1, same_len_mid done (length to - done) to c.clone_block.new.to c.clone_block.auto.to ∙ inv.2)

pub loop-done-init : goal.loop-done-init
loop-done-init g c = (zero-le, clones_none g.T.Clone.is_clone c.args.from.now c.args.to.now, refl)

pub returns-in_err-clone_block-clause-refused : goal.returns-in_err-clone_block-clause-refused
returns-in_err-clone_block-clause-refused g c =
    let at = c.loop-done in
    let inv = at.invariant in
    on_err c.from_residual.result
    (clones_in_part g.T.Clone.is_clone c.args.from.now c.args.to.now at.to c.clone_block.new.to at.done c.requires.fits inv.2 inv.0 inv.1 g.T.Clone.is_infallible
    c.in_err-clone_block.ensures.refused)
