use Rattle.std.proofs.Common.{◌+◌, length, take, ap, subst, ◌∙◌}
use Rattle.std.specs.List.{remove_range}
use Rattle.tinyvec.specs.View.{Becomes}
use Rattle.tinyvec.specs.TinyVec.{view}
use Rattle.tinyvec.specs.FrameLaws.{tiny_items-with, tiny_framed-with}
use Rattle.tinyvec.specs.Lends.{tiny_with_items}
use Rattle.tinyvec.specs.SpliceLaws.{frame_becomes}
use Rattle.tinyvec.proofs.drain.TinyVecCanDrain.end_drain.Goals as goal

pub returns : goal.returns
returns g c =
    let see = view g.A.Slots in
    let D = g.A.Item.Default.is_default in
    let v = c.args.self.now in
    let ws = c.close_gap-kept.new.items in
    let kept = c.close_gap-kept.result in
    let new = c.truncate.new.self in
    let shown = c.as_mut_slice.ensures.value in
    let long = c.close_gap-kept.auto.items ∙ ap length shown in
    subst (Becomes D (see v) (see new))
    (ap (take kept) (tiny_items-with g.A.Slots v ws long) ∙ c.close_gap-kept.ensures.kept ∙ ap (λ l. remove_range l c.args.start (c.args.start + c.args.gap)) shown)
    (frame_becomes D (see v) (see (tiny_with_items g.A.Slots v ws)) (see new) _ (tiny_framed-with g.A.Slots v ws long) c.truncate.ensures)
