use Rattle.std.proofs.Common.{◌<◌, ◌≤◌}
use Rattle.std.specs.Fn.{CalledAtPairMut}
use Rattle.tinyvec_slots.specs.Filters.{IsDedupedTo}
use Rattle.tinyvec_slots.proofs.FiltersLemmas.{Shown}
use Rattle.tinyvec_slots.proofs.filtering.dedup_in_front.Given as goal

abbrev pub invariant-loop-i : goal.invariant-loop-i
invariant-loop-i g l = record {
  some : 0 < l.kept;
  order : l.kept ≤ l.i;
  callable : goal.F-IsAlwaysCallable g l.same;
  shown : Shown (λ us vs. IsDedupedTo (CalledAtPairMut g.F.FnMut) l.initial.same us vs l.same) l.initial.items l.items l.kept l.i;
}
