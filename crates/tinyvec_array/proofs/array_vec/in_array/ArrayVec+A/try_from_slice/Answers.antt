use Rattle.std.proofs.Common.{length, arith, length-drop}
use Rattle.std.proofs.lemmas.List.Elements.{All-drop}
use Rattle.tinyvec_array.specs.View.{view}
use Rattle.tinyvec_array.proofs.array_vec.in_array.ArrayVec+A.try_from_slice.Goals as goal

pub returns-in-Ok-clause-spare : goal.returns-in-Ok-clause-spare
returns-in-Ok-clause-spare g c =
    let n = length c.args.slice.now in
    let old = (view g.A.Slots c.new-vec.result).spare in
    let fresh = c.new-vec.ensures.spare in
    let left = length-drop n old in
    rw c.in-Ok.ensures.clones.spare (omega (arith, left, fresh.0), All-drop g.A.Item.Default.is_default n old fresh.1)
