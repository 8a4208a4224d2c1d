use Rattle.std.proofs.Common.{[], ◌∷◌, refl}
use Rattle.std.specs.Iterator.Adapters.{fuse_steps}
use Rattle.tinyvec_slots.specs.Ends.{front, back}
use Rattle.tinyvec_slots.proofs.AnySpliceLemmas.{RunsWord-takes_removed}
use Rattle.tinyvec_array.specs.View.{view}
use Rattle.tinyvec_array.specs.CutLaws.{KeptOf}
use Rattle.tinyvec_slots.specs.Splice.{splice_view, SpliceKeeps}
use Rattle.tinyvec_examples.proofs.splicing.one_from_each_end.Goals as goal

pub returns-clause-asked : goal.returns-clause-asked
returns-clause-asked g c = let t = c.next_back-last.new.self in (c.next-first.new.self, c.next-first.ensures.steps, (t, c.next_back-last.ensures.steps, refl))

pub returns-clause-yields : goal.returns-clause-yields
returns-clause-yields g c =
    let t = c.next_back-last.new.self in
    RunsWord-takes_removed (splice_view (λ v. (view g.A.Slots v).items)) (SpliceKeeps (λ v. (view g.A.Slots v).items) (KeptOf g.A.Slots)) (fuse_steps g.I.Iterator.next_gives) (fuse_steps g.I.DoubleEndedIterator.next_back_gives) c.args.splice.now (front ∷ back ∷ [])
    (c.next-first.result ∷ c.next_back-last.result ∷ []) t (c.next-first.new.self, c.next-first.ensures.steps, (t, c.next_back-last.ensures.steps, refl))
