use Rattle.std.proofs.Common.{ℕ, ◌<◌, get_or}
use Rattle.tinyvec_array.proofs.tuned.resetting.fill_each.Given as goal

abbrev pub invariant-loop-slot : goal.invariant-loop-slot
invariant-loop-slot g l = (k : ℕ) (d : g.row.T.Denot) → k < l.slot-index → g.T.Default.is_default (get_or l.slots k d)
