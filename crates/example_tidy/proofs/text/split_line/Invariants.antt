use Rattle.std.proofs.Common.{take}
use Rattle.tinyvec_io.specs.Lines.{IsLine}
use Rattle.example_tidy.proofs.text.split_line.Given as goal

abbrev pub invariant-loop-index : goal.invariant-loop-index
invariant-loop-index l = IsLine (take l.index l.bytes)
