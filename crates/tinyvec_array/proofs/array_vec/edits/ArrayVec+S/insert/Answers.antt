use Rattle.tinyvec_array.proofs.InsertedLemmas.{inserted_becomes}
use Rattle.tinyvec_array.proofs.array_vec.edits.ArrayVec+S.insert.Goals as goal

pub returns : goal.returns
returns g c =
    rw c.put_in.ensures.value (inserted_becomes g.S.Slots c.args.self.now c.args.index c.args.element c.requires.in_list c.put_in.ensures.slot_count c.requires.room)
