use Rattle.tinyvec_slots.proofs.ClonesOverLemmas.{writes_from}
use Rattle.tinyvec_array.proofs.tuned.cloning.clone_each_from.Goals as goal

pub returns : goal.returns
returns g c = writes_from g.T.Clone c.clone_each.result c.args.start c.args.from.now c.args.slots.now c.clone_each.new.to c.requires.fits c.clone_each.ensures
