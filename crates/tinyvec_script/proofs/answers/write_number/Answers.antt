use Rattle.std.proofs.Common.{◌∙◌, ap, subst, ◌∷◌}
use Rattle.std.specs.Int.{w32}
use Rattle.std.specs.Fmt.{decimal}
use Rattle.std.proofs.lemmas.Int.{to_z-of_z}
use Rattle.tinyvec_script.proofs.Written.{gathers_then}
use Rattle.tinyvec_script.proofs.Numbers.{minus_first}
use Rattle.tinyvec_script.specs.Writes.{Gathers}
use Rattle.tinyvec_script.proofs.answers.write_number.Goals as goal

pub returns : goal.returns
returns g c =
    subst (Gathers _ _ c.args.gathered.now _ _) (ap (λ n. 45 ∷ decimal n) (rw (to_z-of_z w32 c.args.number c.ranges.number) at c.unsigned_abs.ensures.value) ∙ minus_first c.args.number (rw (to_z-of_z w32 c.args.number c.ranges.number) at c.if-number-ge0.false)) (gathers_then c.put.ensures c.write_decimal-2.ensures)
