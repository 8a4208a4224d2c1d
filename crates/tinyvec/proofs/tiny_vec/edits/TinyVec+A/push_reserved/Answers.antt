use Rattle.tinyvec_array.proofs.RuleLemmas.{none_vacated}
use Rattle.tinyvec.proofs.FrameLemmas.{inline_becomes}
use Rattle.tinyvec.proofs.tiny_vec.edits.TinyVec+A.push_reserved.Goals as goal

pub returns-in-Inline : goal.returns-in-Inline
returns-in-Inline g c = rw c.in-Inline.is (inline_becomes g.A.Slots g.A.Item.Default.is_default _ _ _ _ _ (none_vacated g.A.Item.Default.is_default c.push.ensures))
