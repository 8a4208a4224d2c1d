use Rattle.std.proofs.Common.{refl, ◌∙◌}
use Rattle.tinyvec_array.proofs.InsertedLemmas.{inserted-set, inserted-item}
use Rattle.tinyvec_array.proofs.array_vec.edits.ArrayVec+S.insert_mut.Goals as goal

pub returns : goal.returns
returns g c =
    let v = c.args.self.now in
    let i = c.args.index in
    let x = c.args.element in (
      (refl, rw c.put_in.ensures.value (inserted-set g.S.Slots v i x c.requires.in_list)),
      record {
        writes_back = tt;
        value = c.slot_of.ensures.value ∙ rw c.put_in.ensures.value (inserted-item g.S.Slots v i x c.requires.in_list c.slot_of.result.now);
      },
    )
