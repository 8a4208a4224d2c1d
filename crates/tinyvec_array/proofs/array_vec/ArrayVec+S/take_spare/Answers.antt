use Rattle.std.proofs.Common.{◌+◌, length, ap, arith}
use Rattle.std.proofs.lemmas.List.{take-set-le}
use Rattle.tinyvec_slots.proofs.BorderLemmas.{border, spare-set}
use Rattle.tinyvec_array.proofs.ViewLemmas.{parts_of}
use Rattle.tinyvec_array.proofs.array_vec.ArrayVec+S.take_spare.Goals as goal

pub bounded_index-requires-2 : goal.bounded_index-requires-2
bounded_index-requires-2 g c = omega (arith, parts_of g.S.Slots c.args.self.now)

pub overflow_add-at : goal.overflow_add-at
overflow_add-at g c = omega (arith, parts_of g.S.Slots c.args.self.now, c.bounded_index.ensures, c.bounded_index-2.ensures)

pub bounds-as_slice_mut-at : goal.bounds-as_slice_mut-at
bounds-as_slice_mut-at g c =
    omega (arith, parts_of g.S.Slots c.args.self.now, c.bounded_index.ensures, c.bounded_index-2.ensures, ap length c.as_slice_mut.ensures.value)

pub returns-clause-items : goal.returns-clause-items
returns-clause-items g c =
    let v = c.args.self.now in
    let k = g.S.Slots.count v.len in
    let slots = g.S.Slots.slots v.slots in
    let n = c.len-len.result in
    let ends = border k slots n c.len-len.ensures.value (omega (arith, c.requires)) in
    rw (g.S.Slots.slots_written, c.bounded_index.ensures, c.bounded_index-2.ensures, c.as_slice_mut.ensures.value) (take-set-le k slots (n + c.args.i) c.take.new.dest (omega (arith, ends)))

pub returns-clause-spare : goal.returns-clause-spare
returns-clause-spare g c =
    let v = c.args.self.now in
    let d = c.take.new.dest in
    (d, c.take.ensures.after, rw (g.S.Slots.slots_written, c.bounded_index.ensures, c.bounded_index-2.ensures, c.as_slice_mut.ensures.value) (spare-set (g.S.Slots.count v.len) (g.S.Slots.slots v.slots) c.len-len.result c.len-len.ensures.value c.args.i d c.requires))
