use Rattle.tinyvec_array.proofs.RuleLemmas.{none_vacated}
use Rattle.tinyvec.proofs.PlaceLemmas.{any_list}
use Rattle.tinyvec.proofs.FrameLemmas.{inline_becomes}
use Rattle.tinyvec.proofs.tiny_vec.extending.TinyVec+A.fill_room.Goals as goal

pub returns-in-Inline-clause-frame : goal.returns-in-Inline-clause-frame
returns-in-Inline-clause-frame g c =
    let (_, got, _, _, _) = c.put_iter.ensures.ran in
    rw c.in-Inline.is (inline_becomes g.A.Slots g.A.Item.Default.is_default _ _ _ _ _ (none_vacated g.A.Item.Default.is_default (any_list got)))
