use Rattle.std.proofs.Common.{length, ap, ◌∙◌, arith}
use Rattle.std.proofs.lemmas.Result.{on_ok_weaker, on_err_weaker}
use Rattle.tinyvec_slots.proofs.ClonesOverLemmas.{clones_whole_of}
use Rattle.tinyvec.proofs.TinyLemmas.{tiny_items-with, tiny_framed-with}
use Rattle.tinyvec.proofs.tiny_vec.clones.TinyVec+A.overwrite.Goals as goal

pub returns-clause-ok : goal.returns-clause-ok
returns-clause-ok g c =
    let ws = c.clone_over.new.to in
    let same = ap length c.as_mut_slice.ensures.value in
    on_ok_weaker c.clone_over.result
    (λ over. rw (tiny_items-with g.A.Slots c.args.self.now ws (c.clone_over.auto.to ∙ same)) (clones_whole_of g.A.Item.Clone.is_clone c.args.source.now c.as_mut_slice.result.now ws (omega (arith, same, c.requires.same_len)) over))
    c.clone_over.ensures.ok

pub returns-clause-refused : goal.returns-clause-refused
returns-clause-refused g c =
    let same = c.as_mut_slice.ensures.value in
    on_err_weaker c.clone_over.result (λ h. (h.0, h.1, rw (same, ← tiny_items-with g.A.Slots c.args.self.now c.clone_over.new.to (c.clone_over.auto.to ∙ ap length same)) at h.2)) c.clone_over.ensures.refused

pub returns-clause-frame : goal.returns-clause-frame
returns-clause-frame g c = tiny_framed-with g.A.Slots c.args.self.now c.clone_over.new.to (c.clone_over.auto.to ∙ ap length c.as_mut_slice.ensures.value)
