use Rattle.std.proofs.Common.{arith, rules}
use Rattle.tinyvec_borsh.proofs.NumberBlocks.{fit-slot, spells-next}
use Rattle.tinyvec_borsh.proofs.numbers.number.decode.Goals as goal

pub loop-i-preserved : goal.loop-i-preserved
loop-i-preserved g c = record {
  spelled = spells-next g.T.FixedWidth.form.Spells g.T.FixedWidth.form.Fits _ _ c.args.bytes.now _ _ c.from_slice.result (omega arith) (omega arith) c.loop-i.invariant.spelled c.from_slice.ensures.spelled;
  fit = fit-slot g.T.FixedWidth.form.Spells g.T.FixedWidth.form.Fits _ _ c.from_slice.result (omega arith) c.loop-i.invariant.fit c.from_slice.ensures.valid;
  many = search rules;
}
