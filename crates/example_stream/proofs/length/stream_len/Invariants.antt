use Rattle.std.proofs.Common.{map, take}
use Rattle.tinyvec_borsh.proofs.Lengths.{HaveLength}
use Rattle.example_stream.specs.Readings.{said}
use Rattle.example_stream.specs.Stream.{SpellsFrame}
use Rattle.example_stream.proofs.length.stream_len.Given as goal

-- the records so far have this length
abbrev pub invariant-loop-reading : goal.invariant-loop-reading
invariant-loop-reading l = HaveLength SpellsFrame (map said (take l.reading-index l.readings)) l.len
