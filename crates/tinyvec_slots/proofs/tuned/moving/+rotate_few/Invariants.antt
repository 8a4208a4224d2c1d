use Rattle.std.proofs.Common.{length}
use Rattle.tinyvec_slots.proofs.tuned.moving.+rotate_few.Given as goal

abbrev pub decreases-rotate_few : goal.decreases-rotate_few
decreases-rotate_few g l = length l.items.now
