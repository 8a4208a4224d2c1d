use Rattle.std.proofs.Common.{◌≡◌, ◌≤◌, ◌⊎◌, Some}
use Rattle.std.specs.Io.KnownBytes.{Keeps}
use Rattle.std.specs.declared.io.ErrorKind.TheVariants.{Interrupted}
use Rattle.tinyvec_io.specs.Counted.{Reported}
use Rattle.tinyvec_io.proofs.counted.Counted.read_some.Given as goal

-- only interrupted reads so far
abbrev pub invariant-loop-tries : goal.invariant-loop-tries
invariant-loop-tries g l = record {
  bytes : Keeps (g.R.Read.remaining l.fn.self.inner) (g.R.Read.remaining l.self.inner);
  grows : l.fn.self.faults ≤ l.self.faults;
  failed : l.self.failed ≡ l.fn.self.failed;
  tries : l._tries ≤ l.self.faults;
  last_fault : (l.self.last_fault ≡ l.fn.self.last_fault) ⊎ (l.self.last_fault ≡ Some Interrupted);
  flushed : l.self.flushed ≡ l.fn.self.flushed;
  fault : Reported l.fn.self.faults l.self.faults ⊎ (l._tries ≡ 0);
}
