use Rattle.std.proofs.Common.{map, take}
use Rattle.example_stream.specs.Readings.{said}
use Rattle.example_records.proofs.Showing.{GrewBy}
use Rattle.example_records.proofs.command.push_shown.Given as goal

-- the records so far are shown
abbrev pub invariant-loop-reading : goal.invariant-loop-reading
invariant-loop-reading l = record { lines : GrewBy (map said (take l.reading-index l.recovered.records.items)) l.fn.text.items l.text.items }
