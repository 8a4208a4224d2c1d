use Rattle.std.proofs.Common.{◌≡◌, ℕ, ◌<◌, take, drop, get_or}
use Rattle.std.specs.List.{FoldsTo}
use Rattle.tinyvec_slots.proofs.drain.give_all.Given as goal

abbrev pub invariant-loop-i : goal.invariant-loop-i
invariant-loop-i g l = record {
  given : FoldsTo (λ p x q. goal.F-step g p x tt q) l.initial.f (take l.i l.initial.slots) l.f;
  callable : goal.F-IsAlwaysCallable g l.f;
  left : drop l.i l.slots ≡ drop l.i l.initial.slots;
  defaults : (k : ℕ) (d : g.row.T.Denot) → k < l.i → g.T.Default.is_default (get_or l.slots k d);
}
