use Rattle.std.proofs.Common.{refl, ap}
use Rattle.std.specs.List.{AllZip}
use Rattle.std.proofs.lemmas.List.Elements.{same_from_all_zip}
use Rattle.tinyvec_slots.proofs.CloneLemmas.{are_clones}
use Rattle.tinyvec_slots.proofs.ClonesOverLemmas.{AllZip-cut}
use Rattle.tinyvec_array.specs.ArrayVec.{slots_of}
use Rattle.tinyvec_array.proofs.array_vec.in_array.ArrayVec+A.clone.Goals as goal

pub returns : goal.returns
returns g c =
    let C = g.A.Item.Clone.is_clone in
    let v = c.args.self.now in
    let new = g.A.Slots.slots c.clone_slots.new.to in
    let slots : AllZip C (slots_of g.A.Slots v) new = c.in_ok-clone_slots.ensures.ok in
    let items = (AllZip-cut C (g.A.Slots.count v.len) (slots_of g.A.Slots v) new slots).0 in
    record {
      items = are_clones C _ _ items;
      slots = are_clones C _ _ slots;
      if_clones_equal = λ rule. ap (λ a. record v { slots = a }) (g.met.A.Array.same _ _ (same_from_all_zip C (slots_of g.A.Slots v) new slots rule));
      refused = tt;
      succeeds = λ _. refl;
    }
