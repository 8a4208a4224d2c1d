use Rattle.std.proofs.Common.{◌≡◌, ◌+◌, ◌*◌, ◌<◌, ◌++◌, length, take, vec_len, vec_capacity}
use Rattle.example_dns_query.specs.Answer.{hex_of}
use Rattle.example_dns_query.proofs.answer.push_hex.Given as goal

-- the digits of the bytes so far
abbrev pub invariant-loop-byte : goal.invariant-loop-byte
invariant-loop-byte l = record {
  digits : l.digits.items ≡ l.fn.text.items ++ hex_of (take l.byte-index l.bytes);
  len : vec_len l.digits ≡ vec_len l.fn.text + 2 * l.byte-index;
  room : vec_len l.fn.text + 2 * length l.bytes < vec_capacity l.digits;
}
