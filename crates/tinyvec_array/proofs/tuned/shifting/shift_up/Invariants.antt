use Rattle.std.proofs.Common.{◌≡◌, length, insert}
use Rattle.tinyvec_array.proofs.tuned.shifting.shift_up.Given as goal

abbrev pub invariant-loop-i : goal.invariant-loop-i
invariant-loop-i g l = (insert l.items l.i l.held ≡ insert l.initial.items l.index l.fn.x) × (length l.items ≡ length l.initial.items)
