use Rattle.std.proofs.Common.{arith, rules}
use Rattle.tinyvec_borsh.proofs.Lengths.{next-length}
use Rattle.example_stream.specs.Readings.{said}
use Rattle.example_stream.specs.Stream.{SpellsFrame}
use Rattle.example_stream.proofs.length.stream_len.Goals as goal

pub loop-reading-preserved : goal.loop-reading-preserved
loop-reading-preserved c =
    next-length SpellsFrame said _ _ c.reading-item.result _ _ _ (omega arith) (search rules) (search rules) c.loop-reading.invariant c.frame_len.ensures
