use Rattle.std.proofs.Common.{subst, rules}
use Rattle.std.specs.Iterator.{AlwaysYields}
use Rattle.std.specs.Iterator.Adapters.{copied_steps}
use Rattle.std.specs.Slice.Iter.{iter_steps}
use Rattle.std.proofs.iter.Yields.{Copied-slice}
use Rattle.tinyvec_examples.proofs.known_items.by_copies.Goals as goal

pub returns : goal.returns
returns c =
    c.extend.ensures.items.known c.args.more.now (λ it h. subst (AlwaysYields (copied_steps iter_steps) (λ x. x) it) (search rules) (Copied-slice it)) c.requires
