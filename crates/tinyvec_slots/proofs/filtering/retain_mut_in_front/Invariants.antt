use Rattle.std.proofs.Common.{◌≤◌}
use Rattle.std.specs.Fn.{CalledAtMut}
use Rattle.tinyvec_slots.specs.Filters.{RetainsTo}
use Rattle.tinyvec_slots.proofs.FiltersLemmas.{Shown}
use Rattle.tinyvec_slots.proofs.filtering.retain_mut_in_front.Given as goal

abbrev pub invariant-loop-i : goal.invariant-loop-i
invariant-loop-i g l = record {
  order : l.kept ≤ l.i;
  callable : goal.F-IsAlwaysCallable g l.f;
  shown : Shown (λ us vs. RetainsTo (CalledAtMut g.F.FnMut) l.initial.f us vs l.f) l.initial.items l.items l.kept l.i;
}
