use Rattle.std.proofs.Common.{◌≡◌, ◌<◌, ◌++◌, Some, arith, inl, inr, length, refl, rules}
use Rattle.std.proofs.lemmas.Grind.{common_steps}
use Rattle.std.proofs.lemmas.Result.{err_from_is_err_and}
use Rattle.example_records.specs.Commands.Command.{Hex}
use Rattle.example_records.specs.Hex.{bytes_of}
use Rattle.example_records.proofs.CommandLaws.{hex_added, hex_fails}
use Rattle.example_records.proofs.HexLaws.{some_byte}
use Rattle.example_records.proofs.command.append_hex.Goals as goal

pub returns-clause-answers : goal.returns-clause-answers
returns-clause-answers c =
    let is : bytes_of c.args.text.now ≡ Some c.in_ok-bytes.bytes.items = search rules in
    let grown : c.extend_from_slice.new.self.items ≡ c.args.stream.now.items ++ c.in_ok-bytes.bytes.items = search rules in
    record {
      carried_out = hex_added c.args.text.now _ _ c.in_ok-bytes.bytes.items is grown;
      is_command = (Hex c.in_ok-bytes.bytes.items, (refl, is));
      refused = tt;
    }

pub returns-in_err-bytes-clause-answers : goal.returns-in_err-bytes-clause-answers
returns-in_err-bytes-clause-answers c =
    let p = err_from_is_err_and c.from_residual.result c.from_residual.ensures.1 in
    rw (p.1, p.2) (rw c.as_bytes.ensures.value at (hex_fails c.as_bytes.result.now c.args.stream.now.items _ c.in_err-bytes.ensures.err))

pub returns-in_err-extend_from_slice-clause-tells : goal.returns-in_err-extend_from_slice-clause-tells
returns-in_err-extend_from_slice-clause-tells c =
    let is : bytes_of c.args.text.now ≡ Some c.in_ok-bytes.bytes.items = search rules in
    let some : 0 < length c.in_ok-bytes.bytes.items = first_of (search rules, grind (arith, common_steps)) in
    let p = err_from_is_err_and c.from_residual-in_err-extend_from_slice.result c.from_residual-in_err-extend_from_slice.ensures.1 in
    rw (p.1, p.2) (inr (inl (refl, some_byte c.args.text.now c.in_ok-bytes.bytes.items is some)))
