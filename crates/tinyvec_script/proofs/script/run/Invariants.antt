use Rattle.std.proofs.Common.{◌≡◌, ◌≤◌, List, ℕ, [], Some, length}
use Rattle.std.specs.Io.KnownBytes.{Appends, Consumes}
use Rattle.tinyvec_array.proofs.Named.{lent_slots}
use Rattle.tinyvec_script.specs.Script.{start}
use Rattle.tinyvec_script.specs.History.{Feeds}
use Rattle.tinyvec_script.specs.State.{state_of}
use Rattle.tinyvec_script.proofs.script.run.Given as goal

-- what was read so far, and what was written for it
abbrev pub invariant-loop-piece : goal.invariant-loop-piece
invariant-loop-piece g l = record {
  so_far : (input : List ℕ) × (output : List ℕ)
      × Consumes (g.R.Read.remaining l.fn.reader.inner) (g.R.Read.remaining l.reader.inner) input
      × Appends (g.W.Write.contents l.fn.writer.inner) (g.W.Write.contents l.writer.inner) output
      × Feeds start (Some []) input output (state_of lent_slots l.vectors) l.line
      × (l._piece ≤ length input);
  empty : l.gathered ≡ Some [];
  read_grows : l.fn.reader.faults ≤ l.reader.faults;
  write_grows : l.fn.writer.faults ≤ l.writer.faults;
  read_none_failed : l.reader.failed ≡ l.fn.reader.failed;
  write_none_failed : l.writer.failed ≡ l.fn.writer.failed;
}
