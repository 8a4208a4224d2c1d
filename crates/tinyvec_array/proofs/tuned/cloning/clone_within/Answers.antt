use Rattle.std.proofs.Common.{slice_range}
use Rattle.tinyvec_slots.proofs.CloneLemmas.{range_before}
use Rattle.tinyvec_slots.proofs.ClonesOverLemmas.{clones_behind_first, writes_weaker}
use Rattle.tinyvec_array.proofs.tuned.cloning.clone_within.Goals as goal

pub returns : goal.returns
returns g c =
    let slots = c.args.slots.now in
    let at = c.args.to in
    let parts = c.split_at_mut-front.ensures in
    let range = c.clone_range in
    let same = range_before slots c.args.start c.args.end at c.requires.before.0 c.requires.before.1 in
    let made = rw (parts.front, parts.back, same) at range.ensures in
    rw parts.front (writes_weaker g.T.Clone range.result _ _ (slice_range slots c.args.start c.args.end)
    (λ ys n le. clones_behind_first g.T.Clone.is_clone at n ys slots range.new.to) made)
