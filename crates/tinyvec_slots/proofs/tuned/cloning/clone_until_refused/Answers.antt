use Rattle.std.proofs.Common.{◌≡◌, ◌∙◌, arith, refl, sym, subst, take, length, length-set}
use Rattle.std.proofs.lemmas.List.{get_or_default}
use Rattle.tinyvec_slots.specs.Clones.{ClonesOver}
use Rattle.tinyvec_slots.proofs.ClonesOverLemmas.{clones_none, clones_of_next}
use Rattle.tinyvec_slots.proofs.tuned.cloning.clone_until_refused.Goals as goal

pub loop-i-init : goal.loop-i-init
loop-i-init g c = (clones_none g.T.Clone.is_clone c.args.from.now c.args.to.now, refl)

pub loop-i-preserved : goal.loop-i-preserved
loop-i-preserved g c =
    let inv = c.loop-i.invariant in
    let i = c.loop-i.i in
    let y = c.in-Ok.x in (
      clones_of_next g.T.Clone.is_clone c.args.from.now c.args.to.now c.loop-i.to i c.index-from-i.result y (omega arith) c.requires.fits
          c.index-from-i.is c.in-Ok.ensures.cases inv.0,
      length-set c.loop-i.to i y ∙ inv.1,
    )

pub returns-in-Err-clause-cloned : goal.returns-in-Err-clause-cloned
returns-in-Err-clause-cloned g c = c.loop-i.invariant.0

pub returns-in-Err-clause-refused : goal.returns-in-Err-clause-refused
returns-in-Err-clause-refused g c = λ _.
    let i = c.loop-i.i in
    let x = c.index-from-i.result in (
      c.loop-i-test.true,
      λ d sure. c.in-Err.ensures.cases
          (subst g.T.Clone.is_infallible (get_or_default c.args.from.now i d x c.loop-i-test.true ∙ sym c.index-from-i.is) sure),
    )

pub returns-clause-cloned : goal.returns-clause-cloned
returns-clause-cloned g c =
    let all : c.loop-i.i ≡ length c.args.from.now = omega arith in
    subst (λ n. ClonesOver g.T.Clone.is_clone (take n c.args.from.now) n c.args.to.now c.loop-i.to) all c.loop-i.invariant.0
