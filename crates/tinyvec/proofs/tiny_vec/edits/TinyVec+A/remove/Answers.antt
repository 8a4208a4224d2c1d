use Rattle.tinyvec.proofs.FrameLemmas.{inline_becomes}
use Rattle.tinyvec.proofs.tiny_vec.edits.TinyVec+A.remove.Goals as goal

pub returns-in-Inline-clause-becomes : goal.returns-in-Inline-clause-becomes
returns-in-Inline-clause-becomes g c = rw c.in-Inline.is (inline_becomes g.A.Slots g.A.Item.Default.is_default _ _ _ _ _ c.remove.ensures.becomes)
