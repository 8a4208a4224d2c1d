use Rattle.std.proofs.Common.{◌≤◌, length, rules}
use Rattle.std.proofs.lemmas.Iterator.Adapters.{YieldsList-from_vec}
use Rattle.tinyvec_array.specs.ArrayVec.{spare}
use Rattle.tinyvec_examples.proofs.known_items.by_vec.Goals as goal

pub returns : goal.returns
returns c =
    let xs = c.args.more.items in
    let fits : length xs ≤ length (spare c.args.v.now) = search rules in
    c.extend.ensures.items.known xs (λ it h. (YieldsList-from_vec xs h.0 (search rules)).runs) fits
