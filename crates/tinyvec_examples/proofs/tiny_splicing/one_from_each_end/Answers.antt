use Rattle.std.proofs.Common.{[], ◌∷◌, refl}
use Rattle.std.specs.Iterator.Adapters.{fuse_steps}
use Rattle.tinyvec_slots.specs.Ends.{front, back}
use Rattle.tinyvec.specs.TinyVec.{view}
use Rattle.tinyvec.specs.FrameLaws.{FrameOf}
use Rattle.tinyvec.specs.SpliceLaws.{frame_refl, frame_then}
use Rattle.tinyvec_examples.proofs.SpliceCounted.{splice_counted}
use Rattle.tinyvec_examples.proofs.tiny_splicing.one_from_each_end.Goals as goal

pub returns-clause-asked : goal.returns-clause-asked
returns-clause-asked g c = let t = c.next_back-last.new.self in (c.next-first.new.self, c.next-first.ensures.steps, (t, c.next_back-last.ensures.steps, refl))

pub returns-clause-kept : goal.returns-clause-kept
returns-clause-kept g c =
    let t = c.next_back-last.new.self in
    let counts = splice_counted (λ v. (view g.A.Slots v).items) (FrameOf g.A.Slots) (frame_refl g.A.Slots) (frame_then g.A.Slots) (fuse_steps g.I.Iterator.next_gives) (fuse_steps g.I.DoubleEndedIterator.next_back_gives)
    c.args.splice.now (front ∷ back ∷ []) (c.next-first.result ∷ c.next_back-last.result ∷ []) t
    (c.next-first.new.self, c.next-first.ensures.steps, (t, c.next_back-last.ensures.steps, refl)) in
    counts.kept
