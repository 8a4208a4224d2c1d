use Rattle.std.proofs.Common.{arith}
use Rattle.std.proofs.lemmas.List.{length-map}
use Rattle.tinyvec_array.specs.View.{view}
use Rattle.std.proofs.lemmas.Result.{on_ok_weaker}
use Rattle.tinyvec_borsh.proofs.lists.array_vec.ArrayVecBorshSerialize.serialize.Goals as goal

pub returns-clause-writes : goal.returns-clause-writes
returns-clause-writes g c = rw c.as_slice.ensures at c.write_list.ensures.writes

pub returns-clause-valid : goal.returns-clause-valid
returns-clause-valid g c =
    let long = length-map (view g.A.Slots c.args.self.now).items g.A.Item.BorshForm.content_of in
    let count = g.met.A.Array.counted _ c.len.ensures.slot_count in
    on_ok_weaker c.write_list.result (λ fit. record { few = omega (arith, long, c.len.ensures.value, c.len.ensures.fits, count); counted = omega (arith, long, c.len.ensures.value, c.len.type_inv); items = fit }) (rw c.as_slice.ensures at c.write_list.ensures.valid)
