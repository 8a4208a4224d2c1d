use Rattle.std.proofs.Common.{◌≡◌, ◌-◌, ◌≤◌, length}
use Rattle.tinyvec_text.proofs.Filters.{Retaining}
use Rattle.tinyvec_text.proofs.inline_text.filters.move_kept_to_front.Given as goal

abbrev pub invariant-loop-read : goal.invariant-loop-read
invariant-loop-read g l = record {
  len : length l.bytes ≡ length l.initial.bytes;
  order : l.kept ≤ l.read;
  within : l.read ≤ length l.initial.bytes;
  callable : goal.F-IsAlwaysCallable g l.keep;
  retained : Retaining g.F.FnMut l.initial.keep l.initial.bytes l.keep l.bytes l.read l.kept;
}

abbrev pub decreases-loop-read : goal.decreases-loop-read
decreases-loop-read g l = length l.initial.bytes - l.read
