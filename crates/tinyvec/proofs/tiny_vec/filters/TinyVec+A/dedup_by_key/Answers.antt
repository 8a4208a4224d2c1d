use Rattle.tinyvec_array.proofs.ViewLemmas.{shortened}
use Rattle.tinyvec.proofs.FrameLemmas.{inline_becomes}
use Rattle.tinyvec.proofs.tiny_vec.filters.TinyVec+A.dedup_by_key.Goals as goal

pub returns-in-Inline-clause-shortens : goal.returns-in-Inline-clause-shortens
returns-in-Inline-clause-shortens g c =
    let h = shortened g.A.Slots g.A.Item.Default.is_default c.in-Inline.v c.dedup_by_key.new.vec c.dedup_by_key.ensures.shorter in
    rw c.in-Inline.is (record { bound = h.bound; frame = inline_becomes g.A.Slots g.A.Item.Default.is_default _ _ _ _ _ h.frame })
