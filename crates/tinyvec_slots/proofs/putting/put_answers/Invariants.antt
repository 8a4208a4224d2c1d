use Rattle.std.proofs.Common.{◌≡◌, ◌+◌, List, length}
use Rattle.std.specs.Fn.{Called}
use Rattle.std.specs.List.{FoldsTo}
use Rattle.tinyvec_slots.proofs.putting.put_answers.Given as goal

abbrev pub invariant-loop-at : goal.invariant-loop-at
invariant-loop-at g l = record {
  ran : (ys : List g.row.V-Item.Denot) × FoldsTo (λ f y f'. Called g.F.FnMut f tt y f') l.initial.f ys l.f
      × (l.at ≡ length (g.V.CanPut.items l.initial.vec) + length ys) × g.V.CanPut.Puts l.initial.vec ys l.vec;
  callable : goal.F-IsAlwaysCallable g l.f;
}
