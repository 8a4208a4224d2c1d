use Rattle.std.proofs.Common.{◌≡◌, ◌⊎◌, length}
use Rattle.example_records.specs.Hex.{HasByte, bytes_of}
use Rattle.example_records.proofs.HexLaws.{behind}
use Rattle.example_records.proofs.hex.bytes_of_hex.Given as goal

-- the bytes so far are the first, and those of what is left follow; memory was asked for only for a byte
abbrev pub invariant-loop-rest : goal.invariant-loop-rest
invariant-loop-rest l = record {
  so_far : bytes_of l.fn.text ≡ behind l.bytes.items (bytes_of l.rest);
  begun : HasByte l.fn.text ⊎ (l.rest ≡ l.fn.text);
}

abbrev pub decreases-loop-rest : goal.decreases-loop-rest
decreases-loop-rest l = length l.rest
