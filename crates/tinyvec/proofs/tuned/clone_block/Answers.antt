use Rattle.std.proofs.Common.{◌<◌, take, length-take, length-take-le, sym, subst, ◌∙◌, arith}
use Rattle.std.proofs.lemmas.List.{get_or-take}
use Rattle.tinyvec_slots.proofs.CloneLemmas.{on_err}
use Rattle.tinyvec_slots.proofs.ClonesOverLemmas.{clones_whole_of}
use Rattle.tinyvec.proofs.tuned.clone_block.Goals as goal

pub returns-in_err-clone_each-clause-refused : goal.returns-in_err-clone_each-clause-refused
returns-in_err-clone_each-clause-refused g c =
    let from = c.args.from.now in
    let h = c.in_err-clone_each.ensures.refused in
    let first = length-take g.row.N from in
    let below : h.0 < g.row.N = omega (arith, h.1.0, first) in
    on_err c.from_residual.result (h.0, (omega (arith, h.1.0, first), λ d sure. h.1.1 d (subst g.T.Clone.is_infallible (sym (get_or-take g.row.N from h.0 d below)) sure)))

pub returns-clause-cloned : goal.returns-clause-cloned
returns-clause-cloned g c =
    clones_whole_of g.T.Clone.is_clone (take g.row.N c.args.from.now) c.default-block.result c.clone_each.new.to
    (length-take-le g.row.N c.args.from.now c.requires.enough ∙ sym c.default-block.ensures.long) c.in_ok-clone_each.ensures.ok
