use Rattle.std.proofs.Common.{◌≡◌, ◌-◌, ◌^◌, ◌≤◌, length}
use Rattle.tinyvec_borsh.proofs.ReadItems.{ReadItems}
use Rattle.example_stream.specs.Readings.{ReadingFits, said}
use Rattle.example_stream.specs.Stream.{SpellsFrame}
use Rattle.example_stream.proofs.stream.read_records.Given as goal

-- the records so far were read
abbrev pub invariant-loop-records : goal.invariant-loop-records
invariant-loop-records g l = record {
  read : ReadItems said SpellsFrame ReadingFits l.fn.records.items l.records.items (g.R.Read.remaining l.fn.reader.inner) (g.R.Read.remaining l.reader.inner);
  grows : l.fn.reader.faults ≤ l.reader.faults;
  failed : l.reader.failed ≡ l.fn.reader.failed;
}

-- no vector has 2 ^ 64 items
abbrev pub decreases-loop-records : goal.decreases-loop-records
decreases-loop-records g l = 2 ^ 64 - length l.records.items
