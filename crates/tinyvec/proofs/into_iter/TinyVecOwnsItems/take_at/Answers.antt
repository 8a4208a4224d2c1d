use Rattle.std.proofs.Common.{◌≡◌, length, set, ap, ◌∙◌, length-set}
use Rattle.tinyvec.proofs.TinyLemmas.{tiny_items-with}
use Rattle.tinyvec.specs.declared.tiny_vec.TinyVec.TheVariants.{Heap}
use Rattle.tinyvec.proofs.into_iter.TinyVecOwnsItems.take_at.Goals as goal

pub returns-in-Heap-clause-after : goal.returns-in-Heap-clause-after
returns-in-Heap-clause-after g c =
    let v = c.in-Heap.v in
    let xs = c.as_mut_slice.result.now in
    let d = c.take.new.dest in
    let same = c.as_mut_slice.ensures.value in
    let long : length (set xs c.args.i d) ≡ length v.items = length-set xs c.args.i d ∙ ap length same in
    (d, c.take.ensures.after, rw c.in-Heap.is (tiny_items-with g.A.Slots (Heap v) (set xs c.args.i d) long ∙ ap (λ l. set l c.args.i d) same))
