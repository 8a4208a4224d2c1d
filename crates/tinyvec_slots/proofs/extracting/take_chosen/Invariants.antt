use Rattle.std.specs.Fn.{CalledAtMut}
use Rattle.tinyvec_slots.proofs.ExtractingLemmas.{TurnedDown}
use Rattle.tinyvec_slots.proofs.extracting.take_chosen.Given as goal

abbrev pub invariant-loop-at : goal.invariant-loop-at
invariant-loop-at g l = record {
  callable : goal.F-IsAlwaysCallable g l.pred;
  so_far : TurnedDown (CalledAtMut g.F.FnMut) l.initial.pred l.initial.items l.front l.gap l.end l.pred l.items l.at;
}
