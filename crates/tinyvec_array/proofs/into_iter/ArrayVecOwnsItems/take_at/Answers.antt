use Rattle.tinyvec_array.proofs.ViewLemmas.{items_of-set}
use Rattle.tinyvec_array.proofs.into_iter.ArrayVecOwnsItems.take_at.Goals as goal

pub returns-clause-after : goal.returns-clause-after
returns-clause-after g c =
    let d = c.take.new.dest in
    (d, c.take.ensures.after, rw (c.as_mut_slots-slots.ensures.value, c.bounded_index-at.ensures) (items_of-set g.A.Slots c.args.self.now c.args.i d c.requires))
