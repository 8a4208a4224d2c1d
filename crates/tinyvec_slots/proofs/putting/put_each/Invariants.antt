use Rattle.std.proofs.Common.{◌≡◌, ℕ, ◌+◌, ◌<◌, ◌≤◌, ◌++◌, List, length, take, drop, get_or}
use Rattle.tinyvec_slots.proofs.putting.put_each.Given as goal

abbrev pub invariant-loop-i : goal.invariant-loop-i
invariant-loop-i g l = record {
  put : (v : g.row.V.Denot) (xs : List g.row.V-Item.Denot) → g.V.CanPut.Puts v xs l.initial.vec → l.at ≡ length (g.V.CanPut.items v) + length xs
      → l.at + length l.initial.from ≤ g.V.CanPut.room v → g.V.CanPut.Puts v (xs ++ take l.i l.initial.from) l.vec;
  left : drop l.i l.from ≡ drop l.i l.initial.from;
  defaults : (k : ℕ) (d : g.row.V-Item.Denot) → k < l.i → g.V.Item.Default.is_default (get_or l.from k d);
}
