use Rattle.std.proofs.Common.{◌≡◌, ◌-◌, ◌<◌, ◌≤◌, ◌⊎◌, Some, length, take}
use Rattle.std.specs.List.{AllByRecursion}
use Rattle.std.specs.Io.KnownBytes.{Consumes}
use Rattle.std.specs.declared.io.ErrorKind.TheVariants.{Interrupted}
use Rattle.tinyvec_io.proofs.counted.Counted.fill.Given as goal

-- what was read so far fills the front
abbrev pub invariant-loop-filled : goal.invariant-loop-filled
invariant-loop-filled g l = record {
  bytes : Consumes (g.R.Read.remaining l.fn.self.inner) (g.R.Read.remaining l.self.inner) (take l.filled l.buf);
  small : AllByRecursion (λ byte. byte < 256) (take l.filled l.buf);
  bound : l.filled ≤ length l.buf;
  failed : l.self.failed ≡ l.fn.self.failed;
  last_fault : (l.self.last_fault ≡ l.fn.self.last_fault) ⊎ (l.self.last_fault ≡ Some Interrupted);
  flushed : l.self.flushed ≡ l.fn.self.flushed;
  grows : l.fn.self.faults ≤ l.self.faults;
}

abbrev pub decreases-loop-filled : goal.decreases-loop-filled
decreases-loop-filled g l = length l.buf - l.filled
