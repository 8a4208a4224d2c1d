-- How many bytes a record takes.
use Rattle.std.proofs.Common.{◌≡◌, ap, ℕ, ◌+◌, ◌*◌, List, length, arith}
use Rattle.tinyvec_borsh.specs.TwoParts.{parts-length}
use Rattle.tinyvec_borsh.proofs.Lengths.{list-length}
use Rattle.example_stream.specs.Stream.{SpellsFrame}

pub frame-length : (station : ℕ) (samples note bytes : List ℕ) → SpellsFrame (station, (samples, note)) bytes → length bytes ≡ 21 + 2 * length samples + length note
frame-length station samples note bytes p =
    let reading = p.1 in
    let behind = reading.is_rest in
    omega (
      arith,
      ap length p.2,
      parts-length reading,
      reading.is_first.many,
      parts-length behind,
      list-length 2 samples behind.first behind.is_first,
      list-length 1 note behind.rest behind.is_rest,
    )
