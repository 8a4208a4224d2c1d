use Rattle.std.proofs.Common.{◌≡◌, ◌≤◌, length, map, take, vec_capacity}
use Rattle.tinyvec_script.specs.Command.{letter_code}
use Rattle.tinyvec_script.proofs.splice_text.letters.Given as goal

abbrev pub invariant-loop-byte : goal.invariant-loop-byte
invariant-loop-byte l = record {
  read : map letter_code l.word.items ≡ take l.byte-index l.text;
  room : length l.text ≤ vec_capacity l.word;
}
