use Rattle.std.proofs.Common.{◌≡◌, length, sym, ap, ◌∙◌, le_refl}
use Rattle.std.proofs.lemmas.Result.{on_ok_weaker, on_err_weaker}
use Rattle.tinyvec_slots.proofs.ClonesOverLemmas.{clones_whole_of}
use Rattle.tinyvec_array.proofs.array_vec.in_array.clone_slots.Goals as goal

pub clone_each-requires : goal.clone_each-requires
clone_each-requires g c =
    let count = g.met.A.Array.counted in
    let from = ap length c.as_slice.ensures.value ∙ count _ c.as_slice.ensures.counts in
    let to = ap length c.as_slice_mut.ensures.value ∙ c.knows_slots.ensures in
    record { fits = rw (from, to) (le_refl _) }

pub returns-clause-ok : goal.returns-clause-ok
returns-clause-ok g c =
    let count = g.met.A.Array.counted in
    let xs = c.as_slice.result.now in
    let old = c.as_slice_mut.result.now in
    let from = ap length c.as_slice.ensures.value ∙ count _ c.as_slice.ensures.counts in
    let to = ap length c.as_slice_mut.ensures.value ∙ c.knows_slots.ensures in
    let long : length xs ≡ length old = from ∙ sym to in
    on_ok_weaker c.clone_each.result (λ h.
    rw (g.A.Slots.slots_written, ← c.as_slice.ensures.value) (clones_whole_of g.A.Item.Clone.is_clone xs old c.clone_each.new.to long h))
    c.clone_each.ensures.ok

pub returns-clause-refused : goal.returns-clause-refused
returns-clause-refused g c = on_err_weaker c.clone_each.result (λ h. (h.0, rw (← c.as_slice.ensures.value) h.1)) c.clone_each.ensures.refused

pub returns-clause-succeeds : goal.returns-clause-succeeds
returns-clause-succeeds g c = λ all. c.clone_each.ensures.succeeds (rw c.as_slice.ensures.value all)
