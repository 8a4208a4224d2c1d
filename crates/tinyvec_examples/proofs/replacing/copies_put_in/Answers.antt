use Rattle.std.proofs.Common.{rules}
use Rattle.tinyvec_slots.proofs.KnownItems.{copied_yields}
use Rattle.tinyvec_examples.proofs.replacing.copies_put_in.Goals as goal

pub returns : goal.returns
returns c = (c.splice_all.ensures.known c.args.more.now (λ it h. copied_yields c.args.more.now it (search rules))).0
