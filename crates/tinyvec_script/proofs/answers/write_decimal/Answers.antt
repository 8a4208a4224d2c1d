use Rattle.std.proofs.Common.{sym, subst, arith}
use Rattle.tinyvec_script.specs.Writes.{Gathers}
use Rattle.tinyvec_script.proofs.Numbers.{decimal_four}
use Rattle.tinyvec_script.proofs.answers.write_decimal.Goals as goal

pub returns-then-number-lt100000000 : goal.returns-then-number-lt100000000
returns-then-number-lt100000000 g c =
    subst (Gathers _ _ c.args.gathered.now _ _) (sym (decimal_four c.args.number c.if-number-lt10000.false (omega arith))) c.write_up_to_eight.ensures
