use Rattle.std.proofs.Common.{arith}
use Rattle.std.proofs.lemmas.Str.Parse.{digit_at}
use Rattle.tinyvec_script.proofs.Indices.{digits_so_far, value_more, value_at_least}
use Rattle.tinyvec_script.proofs.number.parse_digits.Goals.{then-byte-lt48-via-then-byte-lt48, then-byte-lt48-via-else-byte-lt48+then-byte-gt57}
use Rattle.tinyvec_script.proofs.number.parse_digits.Goals as goal

pub returns-then-byte-lt48 : goal.returns-then-byte-lt48
returns-then-byte-lt48 c = λ digits.
    let byte = digit_at c.args.bytes.now c.loop-byte.byte-index digits c.loop-byte-test.true in
    elim c.then-byte-lt48.branch [
      | then-byte-lt48-via-then-byte-lt48 w ↦ absurd (omega (arith, byte.0, w.if-byte-lt48.true))
      | then-byte-lt48-via-else-byte-lt48+then-byte-gt57 w ↦ absurd (omega (arith, byte.1, w.if-byte-gt57.true))
    ]

pub returns-in_err-checked_mul : goal.returns-in_err-checked_mul
returns-in_err-checked_mul c = rw c.from_residual.ensures (λ digits.
    let most = value_at_least c.args.bytes.now c.loop-byte.byte-index c.loop-byte.value c.loop-byte-test.true c.loop-byte.invariant.value c.if-byte-lt48.false c.if-byte-gt57.false in
    omega (arith, most, c.in_err-checked_mul.ensures))

pub returns-in_err-value : goal.returns-in_err-value
returns-in_err-value c = rw c.from_residual-in_err-value.ensures (λ digits.
    let most = value_at_least c.args.bytes.now c.loop-byte.byte-index c.loop-byte.value c.loop-byte-test.true c.loop-byte.invariant.value c.if-byte-lt48.false c.if-byte-gt57.false in
    omega (arith, most, c.in_ok-checked_mul.ensures, c.in_err-value.ensures))

pub loop-byte-preserved : goal.loop-byte-preserved
loop-byte-preserved c =
    let value = value_more c.args.bytes.now c.loop-byte.byte-index c.loop-byte.value c.loop-byte-test.true c.loop-byte.invariant.value c.if-byte-lt48.false c.if-byte-gt57.false in
    record {
      digits = digits_so_far c.args.bytes.now c.loop-byte.byte-index c.loop-byte.value c.loop-byte-test.true c.loop-byte.invariant.value c.if-byte-lt48.false c.if-byte-gt57.false c.loop-byte.invariant.digits;
      value = grind (arith, value);
    }
