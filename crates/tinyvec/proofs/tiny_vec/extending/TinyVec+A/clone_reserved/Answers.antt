use Rattle.std.proofs.Common.{arith, rules}
use Rattle.tinyvec_slots.proofs.Lists.{length-slice_range}
use Rattle.tinyvec_array.proofs.ViewLemmas.{parts_of}
use Rattle.tinyvec.proofs.ExtendingLemmas.{inline_clones, heap_clones}
use Rattle.tinyvec_array.specs.ArrayVec.{view_of}
use Rattle.tinyvec.proofs.tiny_vec.extending.TinyVec+A.clone_reserved.Goals as goal

pub extend_from_within-requires : goal.extend_from_within-requires
extend_from_within-requires g c =
    let room = rw c.in-Inline.is at c.requires.room in
    let in_list = rw c.in-Inline.is at c.requires.in_list in
    record { not_exhausted = search rules; in_list = in_list; room = omega (arith, room, parts_of g.A.Slots c.in-Inline.v) }

pub push_clones_within-requires : goal.push_clones_within-requires
push_clones_within-requires g c =
    let room = rw c.in-Heap.is at c.requires.room in
    let in_list = rw c.in-Heap.is at c.requires.in_list in
    let v = c.in-Heap.v in
    record {
      in_list = (in_list.0, omega (arith, in_list.1, v.ok.0));
      room = omega (arith, room, v.ok.0, length-slice_range v.items c.args.start c.args.end in_list.0 in_list.1);
    }

pub returns-in-Inline : goal.returns-in-Inline
returns-in-Inline g c =
    rw c.in-Inline.is (inline_clones g.A.Item.Clone _ _ (view_of g.A.Slots c.in-Inline.v) (view_of g.A.Slots c.extend_from_within.new.self)
    c.extend_from_within.ensures.clones c.extend_from_within.ensures.lender.slot_count)

pub returns-in-Heap : goal.returns-in-Heap
returns-in-Heap g c = rw c.in-Heap.is (heap_clones g.A.Item.Clone _ _ c.in-Heap.v c.push_clones_within.new.heap c.push_clones_within.ensures)
