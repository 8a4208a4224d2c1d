use Rattle.std.proofs.Common.{◌≡◌, ◌++◌, List, Option, take, vec_capacity}
use Rattle.std.specs.Iterator.Adapters.{fuse_steps}
use Rattle.std.specs.Vec.Iter.{into_iter_steps, into_iter_steps_back}
use Rattle.tinyvec_slots.specs.Ends.{RunsWord, given_items}
use Rattle.tinyvec_slots.specs.Splice.{SpliceSteps, SpliceStepsBack}
use Rattle.tinyvec_script.specs.Driving.{word_of}
use Rattle.tinyvec_script.proofs.driving.take_word.Given as goal

abbrev pub invariant-loop-letter : goal.invariant-loop-letter
invariant-loop-letter g l = record {
  asks : (answers : List (Option g.row.V-Item.Denot))
      × RunsWord (SpliceSteps g.V.CanCut.items g.V.CanCut.Kept (fuse_steps into_iter_steps)) (SpliceStepsBack g.V.CanCut.items g.V.CanCut.Kept (fuse_steps into_iter_steps_back)) l.initial.splice (word_of (take l.letter-index l.word)) answers l.splice
      × (l.yields.items ≡ l.initial.yields.items ++ given_items answers);
  capacity : vec_capacity l.yields ≡ vec_capacity l.initial.yields;
}
