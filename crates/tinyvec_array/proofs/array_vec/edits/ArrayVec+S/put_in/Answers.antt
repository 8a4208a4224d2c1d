use Rattle.std.proofs.Common.{length, refl, ap, arith}
use Rattle.tinyvec_array.proofs.InsertedLemmas.{put_in_parts}
use Rattle.tinyvec_array.proofs.ViewLemmas.{parts_of}
use Rattle.tinyvec_array.proofs.array_vec.edits.ArrayVec+S.put_in.Goals as goal

pub returns-clause-value : goal.returns-clause-value
returns-clause-value g c =
    let v = c.args.self.now in
    let len = c.len-len in
    let parts = put_in_parts (g.S.Slots.count v.len) (g.S.Slots.slots v.slots) len.result len.ensures.value c.args.index c.args.element in
    rw (c.to_len.ensures.value, c.insert_within.ensures, c.as_slice_mut.ensures.value, parts, len.ensures.value) refl

pub insert_within-requires-clause-room : goal.insert_within-requires-clause-room
insert_within-requires-clause-room g c = omega (arith, parts_of g.S.Slots c.args.self.now, ap length c.as_slice_mut.ensures.value)

pub to_len-requires : goal.to_len-requires
to_len-requires g c = omega (arith, parts_of g.S.Slots c.args.self.now)

pub overflow_add-len : goal.overflow_add-len
overflow_add-len g c = omega (arith, parts_of g.S.Slots c.args.self.now)
