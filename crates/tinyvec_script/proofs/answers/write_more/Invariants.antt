use Rattle.std.proofs.Common.{◌++◌, codes, take}
use Rattle.std.specs.List.{flat_map}
use Rattle.std.specs.Fmt.{signed_decimal}
use Rattle.tinyvec_script.specs.Writes.{Gathers}
use Rattle.tinyvec_script.proofs.answers.write_more.Given as goal

abbrev pub invariant-loop-number : goal.invariant-loop-number
invariant-loop-number g l = Gathers g.W.Write.contents l.fn.writer l.fn.gathered l.writer l.gathered
    (flat_map (λ number. codes ", " ++ signed_decimal number) (take l.number-index l.numbers))
