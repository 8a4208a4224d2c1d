use Rattle.std.proofs.Common.{◌≡◌, ◌≤◌, map, take}
use Rattle.std.specs.List.{AllByRecursion}
use Rattle.tinyvec_borsh.proofs.ItemByItem.{WroteItems}
use Rattle.example_stream.specs.Readings.{ReadingFits, said}
use Rattle.example_stream.specs.Stream.{SpellsFrame}
use Rattle.example_stream.proofs.stream.append_all.Given as goal

-- the records so far were written
abbrev pub invariant-loop-reading : goal.invariant-loop-reading
invariant-loop-reading g l = record {
  wrote : WroteItems SpellsFrame (map said (take l.reading-index l.readings)) (g.W.Write.contents l.fn.writer.inner) (g.W.Write.contents l.writer.inner);
  fit : AllByRecursion ReadingFits (map said (take l.reading-index l.readings));
  grows : l.fn.writer.faults ≤ l.writer.faults;
  failed : l.writer.failed ≡ l.fn.writer.failed;
}
