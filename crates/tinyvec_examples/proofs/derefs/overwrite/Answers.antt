use Rattle.std.proofs.Common.{rules, ◌∙◌}
use Rattle.tinyvec_array.proofs.Named.{array_slots}
use Rattle.tinyvec.proofs.TinyLemmas.{tiny_items-with}
use Rattle.tinyvec_examples.proofs.derefs.overwrite.Goals as goal

pub returns-clause-items : goal.returns-clause-items
returns-clause-items c = tiny_items-with (array_slots 4) c.args.v.now _ (search rules) ∙ (search rules)
