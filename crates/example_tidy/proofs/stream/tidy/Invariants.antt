use Rattle.std.proofs.Common.{◌≡◌, ◌≤◌, List, ℕ, length}
use Rattle.std.specs.Io.KnownBytes.{Appends, Consumes}
use Rattle.tinyvec.specs.TinyVec.{tiny_items, tiny_capacity}
use Rattle.example_tidy.specs.Tidy.{TidiedUpTo}
use Rattle.example_tidy.proofs.stream.tidy.Given as goal

-- what was read so far, and what was written for it
abbrev pub invariant-loop-piece : goal.invariant-loop-piece
invariant-loop-piece g l = record {
  so_far : (input : List ℕ) × (output : List ℕ)
      × Consumes (g.R.Read.remaining l.fn.reader.inner) (g.R.Read.remaining l.reader.inner) input
      × Appends (g.W.Write.contents l.fn.writer.inner) (g.W.Write.contents l.writer.inner) output
      × TidiedUpTo input output (tiny_items l.line)
      × (l._piece ≤ length input);
  line_room : 80 ≤ tiny_capacity l.line;
  chunk : length l.chunk ≤ 4016;
  read_grows : l.fn.reader.faults ≤ l.reader.faults;
  write_grows : l.fn.writer.faults ≤ l.writer.faults;
  read_none_failed : l.reader.failed ≡ l.fn.reader.failed;
  write_none_failed : l.writer.failed ≡ l.fn.writer.failed;
}
