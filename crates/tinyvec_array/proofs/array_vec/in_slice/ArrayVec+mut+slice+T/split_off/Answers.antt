use Rattle.std.proofs.Common.{◌≤◌, drop, ap, ◌∙◌, arith}
use Rattle.std.proofs.lemmas.Slice.{between_is}
use Rattle.tinyvec_slots.proofs.BorderLemmas.{list_to}
use Rattle.tinyvec_array.proofs.array_vec.in_slice.ArrayVec+mut+slice+T.split_off.Goals as goal

pub returns-clause-tail : goal.returns-clause-tail
returns-clause-tail g c =
    let v = c.args.self.now in
    let n = c.len-len.result in
    let at = c.args.at in
    let long = c.len-len.ensures.value in
    let within : at ≤ n = omega (arith, c.requires) in
    rw (c.split_at_mut-first.ensures.back, c.take-slots.ensures.value)
    (between_is v.slots.now at n ∙ ap (drop at) (list_to v.len v.slots.now n long))
