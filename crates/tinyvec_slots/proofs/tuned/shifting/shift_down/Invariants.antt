use Rattle.std.proofs.Common.{◌≡◌, ◌≤◌, ◌++◌, ◌∷◌, [], length, insert}
use Rattle.tinyvec_slots.proofs.tuned.shifting.shift_down.Given as goal

abbrev pub invariant-loop-i : goal.invariant-loop-i
invariant-loop-i g l = record {
  inserted : insert l.items l.i l.held ≡ l.initial.items ++ l.fn.x ∷ [];
  len : length l.items ≡ length l.initial.items;
  started : l.index ≤ l.i;
  in_bounds : l.i ≤ length l.items;
}

abbrev pub decreases-loop-i : goal.decreases-loop-i
decreases-loop-i g l = l.i
