use Rattle.std.proofs.Common.{◌≡◌, take}
use Rattle.std.specs.Cmp.Lexicographic.{pointwise}
use Rattle.tinyvec_slots.proofs.tuned.comparing.same_block.Given as goal

abbrev pub invariant-loop-i : goal.invariant-loop-i
invariant-loop-i g l = l.same ≡ pointwise g.T.PartialEq.eq (take l.i l.a) (take l.i l.b)
