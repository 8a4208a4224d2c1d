use Rattle.std.proofs.Common.{◌≡◌, ◌<◌, ◌≤◌, ◌⊎◌, Some, false, length}
use Rattle.std.specs.declared.io.ErrorKind.TheVariants.{Interrupted}
use Rattle.tinyvec_io.proofs.Pieces.{AppendsUpTo}
use Rattle.tinyvec_io.proofs.counted.writing.CountedWrite.write_all.Given as goal

-- what went before the rest was appended
abbrev pub invariant-loop-rest : goal.invariant-loop-rest
invariant-loop-rest g l = record {
  bytes : AppendsUpTo (g.W.Write.contents l.fn.self.inner) (g.W.Write.contents l.self.inner) l.buf l.rest;
  failed : l.self.failed ≡ l.fn.self.failed;
  last_fault : (l.self.last_fault ≡ l.fn.self.last_fault) ⊎ (l.self.last_fault ≡ Some Interrupted);
  flushed : length l.rest < length l.buf → l.self.flushed ≡ false;
  within : length l.rest ≤ length l.buf;
  grows : l.fn.self.faults ≤ l.self.faults;
}

abbrev pub decreases-loop-rest : goal.decreases-loop-rest
decreases-loop-rest g l = length l.rest
