use Rattle.std.proofs.Common.{◌≡◌, arith, length, rules}
use Rattle.tinyvec_array.specs.ArrayVec.{items}
use Rattle.tinyvec.specs.TinyVec.{tiny_items}
use Rattle.example_stream.proofs.Lengths.{frame-length}
use Rattle.example_stream.proofs.length.frame_len.Goals as goal

pub returns : goal.returns
returns c =
    let samples : c.len.result ≡ length (items c.args.reading.now.samples) = search rules in
    let note : c.len-2.result ≡ length (tiny_items c.args.reading.now.note) = search rules in
    λ bytes p. omega (arith, frame-length _ _ _ bytes p, samples, note, c.saturating_add.ensures)
