use Rattle.tinyvec.proofs.TinyLemmas.{tiny_items-with_item, tiny_framed-with_item}
use Rattle.tinyvec_examples.proofs.tiny_vec.set.Goals as goal

pub returns-clause-items : goal.returns-clause-items
returns-clause-items g c = tiny_items-with_item g.A.Slots c.args.v.now c.args.i c.args.x c.requires

pub returns-clause-spare : goal.returns-clause-spare
returns-clause-spare g c = (tiny_framed-with_item g.A.Slots c.args.v.now c.args.i c.args.x c.requires).spare

pub returns-clause-place : goal.returns-clause-place
returns-clause-place g c = (tiny_framed-with_item g.A.Slots c.args.v.now c.args.i c.args.x c.requires).place
