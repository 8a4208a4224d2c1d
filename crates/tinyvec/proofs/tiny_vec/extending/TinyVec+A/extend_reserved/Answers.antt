use Rattle.std.proofs.Common.{arith}
use Rattle.tinyvec_array.proofs.ViewLemmas.{parts_of}
use Rattle.tinyvec.proofs.ExtendingLemmas.{inline_clones, heap_clones}
use Rattle.tinyvec_array.specs.ArrayVec.{view_of}
use Rattle.tinyvec.proofs.tiny_vec.extending.TinyVec+A.extend_reserved.Goals as goal

pub extend_from_slice-requires : goal.extend_from_slice-requires
extend_from_slice-requires g c =
    let room = rw c.in-Inline.is at c.requires.room in
    record { room = omega (arith, room, parts_of g.A.Slots c.in-Inline.v) }

pub push_clones-requires : goal.push_clones-requires
push_clones-requires g c =
    let room = rw c.in-Heap.is at c.requires.room in
    record { room = omega (arith, room, c.in-Heap.v.ok.0) }

pub returns-in-Inline : goal.returns-in-Inline
returns-in-Inline g c =
    rw c.in-Inline.is (inline_clones g.A.Item.Clone _ _ (view_of g.A.Slots c.in-Inline.v) (view_of g.A.Slots c.extend_from_slice.new.self)
    c.extend_from_slice.ensures.clones c.extend_from_slice.ensures.lender.slot_count)

pub returns-in-Heap : goal.returns-in-Heap
returns-in-Heap g c = rw c.in-Heap.is (heap_clones g.A.Item.Clone _ _ c.in-Heap.v c.push_clones.new.heap c.push_clones.ensures)
