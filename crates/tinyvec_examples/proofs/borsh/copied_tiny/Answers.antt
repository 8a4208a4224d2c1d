use Rattle.tinyvec.specs.TinyVec.{view}
use Rattle.tinyvec_borsh.proofs.ReadBack.{same-items}
use Rattle.tinyvec_examples.proofs.borsh.copied_tiny.Goals as goal

pub returns-clause-same : goal.returns-clause-same
returns-clause-same g c = same-items g.A.Item.BorshForm.content_of c.requires c.copied.result (λ v. (view g.A.Slots v).items) c.args.v.now c.copied.ensures.same
