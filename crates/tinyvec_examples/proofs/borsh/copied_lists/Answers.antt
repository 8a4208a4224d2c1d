use Rattle.tinyvec_array.specs.View.{view}
use Rattle.tinyvec.specs.TinyVec.{tiny_items}
use Rattle.tinyvec_borsh.proofs.ReadBack.{same-lists}
use Rattle.tinyvec_examples.proofs.borsh.copied_lists.Goals as goal

pub returns-clause-same : goal.returns-clause-same
returns-clause-same g c = same-lists g.A.Item.BorshForm.content_of c.requires c.copied.result (λ v. (view g.A.Slots v).items) tiny_items c.args.v.now c.copied.ensures.same
