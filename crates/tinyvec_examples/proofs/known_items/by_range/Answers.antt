use Rattle.std.proofs.Common.{◌≤◌, ◌-◌, length, refl, arith}
use Rattle.std.specs.List.{range_with_len}
use Rattle.std.proofs.lemmas.List.FromFn.{length-range_with_len}
use Rattle.std.proofs.lemmas.Iterator.{YieldsList-from_range}
use Rattle.tinyvec_array.specs.ArrayVec.{spare}
use Rattle.tinyvec_examples.proofs.known_items.by_range.Goals as goal

pub returns : goal.returns
returns c =
    let start = c.args.start in
    let n = c.args.end - start in
    let fits : length (range_with_len start n) ≤ length (spare c.args.v.now) = omega (arith, length-range_with_len start n, c.requires) in
    c.extend.ensures.items.known (range_with_len start n) (λ it h. (YieldsList-from_range start c.args.end n h refl).runs) fits
