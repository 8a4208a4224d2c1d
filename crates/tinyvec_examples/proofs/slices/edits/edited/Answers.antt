use Rattle.std.proofs.Common.{◌≡◌, ◌∷◌, [], pos, rules, refl, ◌∙◌}
use Rattle.tinyvec_array.specs.SliceVec.{slice_items, slice_spare, slice_slots}
use Rattle.tinyvec_array.proofs.ViewLemmas.{owner_sees}
use Rattle.tinyvec_examples.proofs.slices.edits.edited.Goals as goal

pub returns : goal.returns
returns c =
    let v = c.edit.new.v in
    let list : slice_items v ≡ pos 1 ∷ pos 8 ∷ pos 3 ∷ [] = c.edit.ensures.items ∙ rw (c.from_slice_len-v.ensures.items) refl in
    let rest : slice_spare v ≡ pos 0 ∷ pos 9 ∷ [] = c.edit.ensures.spare ∙ rw (c.from_slice_len-v.ensures.spare) refl in
    let whole : slice_slots v ≡ pos 1 ∷ pos 8 ∷ pos 3 ∷ pos 0 ∷ pos 9 ∷ [] = owner_sees v _ _ list rest in
    search rules
