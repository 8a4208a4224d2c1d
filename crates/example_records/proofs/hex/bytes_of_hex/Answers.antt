use Rattle.std.proofs.Common.{◌≡◌, ◌<◌, ◌++◌, ◌∷◌, [], None, Some, inl, inr, length, refl, rules, slice_index}
use Rattle.example_records.specs.Hex.{byte_of}
use Rattle.example_records.proofs.HexLaws.{at_end, at_odd_end, has_byte, next_byte, no_byte}
use Rattle.example_records.proofs.hex.bytes_of_hex.Goals as goal

pub returns-in_default-byte_of-clause-err : goal.returns-in_default-byte_of-clause-err
returns-in_default-byte_of-clause-err c =
    let none : byte_of (slice_index c.loop-rest.rest.now 0) (slice_index c.loop-rest.rest.now 1) ≡ None = search rules in
    inr (refl, no_byte c.args.text.now c.loop-rest.bytes.items c.loop-rest.rest.now c.in-len2-up.len_at_least none c.loop-rest.invariant.so_far)

pub loop-rest-preserved : goal.loop-rest-preserved
loop-rest-preserved c =
    let is : byte_of (slice_index c.loop-rest.rest.now 0) (slice_index c.loop-rest.rest.now 1) ≡ Some c.in-Some.byte = search rules in
    let pushed : c.push.new.self.items ≡ c.loop-rest.bytes.items ++ c.in-Some.byte ∷ [] = search rules in
    record {
      so_far = next_byte c.args.text.now c.loop-rest.bytes.items c.loop-rest.rest.now c.push.new.self.items c.in-Some.byte c.in-len2-up.len_at_least is pushed c.loop-rest.invariant.so_far;
      begun = inl (has_byte c.args.text.now c.loop-rest.rest.now c.in-Some.byte c.in-len2-up.len_at_least is c.loop-rest.invariant.begun);
    }

pub returns-then-is_err-clause-err : goal.returns-then-is_err-clause-err
returns-then-is_err-clause-err c =
    let is : byte_of (slice_index c.loop-rest.rest.now 0) (slice_index c.loop-rest.rest.now 1) ≡ Some c.in-Some.byte = search rules in
    inl (refl, has_byte c.args.text.now c.loop-rest.rest.now c.in-Some.byte c.in-len2-up.len_at_least is c.loop-rest.invariant.begun)

pub returns-then-is_empty-clause-ok : goal.returns-then-is_empty-clause-ok
returns-then-is_empty-clause-ok c =
    let empty : length c.loop-rest.rest.now ≡ 0 = search rules in
    at_end c.args.text.now c.loop-rest.bytes.items c.loop-rest.rest.now empty c.loop-rest.invariant.so_far

pub returns-else-is_empty-clause-err : goal.returns-else-is_empty-clause-err
returns-else-is_empty-clause-err c =
    let some : 0 < length c.loop-rest.rest.now = search rules in
    inr (refl, at_odd_end c.args.text.now c.loop-rest.bytes.items c.loop-rest.rest.now some c.in_default.len_below c.loop-rest.invariant.so_far)
