use Rattle.std.proofs.Common.{sym, subst, arith}
use Rattle.tinyvec_script.specs.Writes.{Gathers}
use Rattle.tinyvec_script.proofs.Written.{gathers_then}
use Rattle.tinyvec_script.proofs.Numbers.{decimal_eight}
use Rattle.tinyvec_script.proofs.answers.write_long.Goals as goal

pub returns : goal.returns
returns g c =
    subst (Gathers _ _ c.args.gathered.now _ _) (sym (decimal_eight c.args.number c.requires (omega arith)))
    (gathers_then (gathers_then c.write_up_to_four.ensures (rw c.four.ensures at c.put_few.ensures)) (rw c.four-2.ensures at c.put_few-2.ensures))
