use Rattle.std.proofs.Common.{◌≡◌, take}
use Rattle.std.specs.Str.Parse.{AllDigits, digits_value}
use Rattle.tinyvec_script.proofs.number.parse_digits.Given as goal

-- the bytes so far are digits, and this is their value
abbrev pub invariant-loop-byte : goal.invariant-loop-byte
invariant-loop-byte l = record {
  digits : AllDigits 10 (take l.byte-index l.bytes);
  value : digits_value 10 (take l.byte-index l.bytes) ≡ l.value;
}
