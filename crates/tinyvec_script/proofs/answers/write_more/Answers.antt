use Rattle.std.proofs.Common.{rules, ◌++◌, codes, pos, ◌∙◌, subst, append_assoc, get_or, FitsSigned}
use Rattle.std.specs.Int.{w32}
use Rattle.std.specs.Fmt.{signed_decimal}
use Rattle.std.proofs.Concat.{flat_map-take_more}
use Rattle.std.proofs.lemmas.Int.{to_z-of_z}
use Rattle.tinyvec_script.specs.Writes.{Gathers}
use Rattle.tinyvec_script.proofs.Written.{gathers_then}
use Rattle.tinyvec_script.proofs.answers.write_more.Goals as goal

pub loop-number-preserved : goal.loop-number-preserved
loop-number-preserved g c =
    let i = c.loop-number.number-index in
    let numbers = c.args.numbers.now in
    let fits : FitsSigned w32 (get_or numbers i (pos 0)) = search rules in
    subst (Gathers _ _ c.args.gathered.now _ _)
    (append_assoc _ (codes ", ") _ ∙ flat_map-take_more (λ number. codes ", " ++ signed_decimal number) numbers i (pos 0) c.loop-number-test.true)
    (gathers_then (gathers_then c.loop-number.invariant c.put_few.ensures) (rw to_z-of_z at c.write_number.ensures))
