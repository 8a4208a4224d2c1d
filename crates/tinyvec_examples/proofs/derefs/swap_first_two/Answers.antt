use Rattle.std.proofs.Common.{rules}
use Rattle.tinyvec_array.specs.CutLaws.{written_of}
use Rattle.tinyvec_array.proofs.Named.{array_slots}
use Rattle.tinyvec_examples.proofs.derefs.swap_first_two.Goals as goal

pub returns-clause-items : goal.returns-clause-items
returns-clause-items c = rw ((written_of (array_slots 4) c.args.v.now c.swap.new.self (search rules)).0) (search rules)
