use Rattle.std.proofs.Common.{arith}
use Rattle.tinyvec_script.proofs.Indices.{printed_nonempty, printed_zero, zero_is_printed, read_is_printed, unread_is_unprinted}
use Rattle.tinyvec_script.proofs.number.parse_index.Goals as goal

pub returns-then-is_empty : goal.returns-then-is_empty
returns-then-is_empty c = λ n h e. let some = printed_nonempty n c.args.bytes.now h e in grind arith

pub returns-then-bytes-eq1 : goal.returns-then-bytes-eq1
returns-then-bytes-eq1 c = zero_is_printed c.args.bytes.now c.if-bytes-eq48.true c.if-bytes-eq1.true

pub returns-else-bytes-eq1 : goal.returns-else-bytes-eq1
returns-else-bytes-eq1 c = λ n h e. c.if-bytes-eq1.false (printed_zero n c.args.bytes.now h e c.if-bytes-eq48.true)

pub returns : goal.returns
returns c =
    let read = c.in_ok-parse_digits.ensures in
    read_is_printed c.args.bytes.now c.in_ok-parse_digits.field-0 (let some = c.if-is_empty.false in grind arith) read.0 read.1 (omega arith) c.if-bytes-eq48.false

pub returns-in_err-parse_digits : goal.returns-in_err-parse_digits
returns-in_err-parse_digits c = rw c.from_residual.ensures (unread_is_unprinted c.args.bytes.now c.in_err-parse_digits.ensures)
