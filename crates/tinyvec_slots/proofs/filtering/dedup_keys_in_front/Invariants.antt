use Rattle.std.proofs.Common.{◌<◌, ◌≤◌}
use Rattle.std.specs.Fn.{ComparesKeys}
use Rattle.tinyvec_slots.specs.Filters.{IsDedupedTo}
use Rattle.tinyvec_slots.proofs.FiltersLemmas.{Shown}
use Rattle.tinyvec_slots.proofs.filtering.dedup_keys_in_front.Given as goal

abbrev pub invariant-loop-i : goal.invariant-loop-i
invariant-loop-i g l = record {
  some : 0 < l.kept;
  order : l.kept ≤ l.i;
  callable : goal.F-IsAlwaysCallable g l.key;
  shown : Shown (λ us vs. IsDedupedTo (ComparesKeys g.F.FnMut g.K.PartialEq.eq) l.initial.key us vs l.key) l.initial.items l.items l.kept l.i;
}
