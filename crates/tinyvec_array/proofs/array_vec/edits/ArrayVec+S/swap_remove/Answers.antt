use Rattle.std.proofs.Common.{◌∙◌, arith, rules, refl}
use Rattle.std.proofs.lemmas.Grind.{common_steps}
use Rattle.tinyvec_array.specs.ViewLaws.{one_place}
use Rattle.tinyvec_array.proofs.array_vec.edits.ArrayVec+S.swap_remove.Goals as goal

pub returns-clause-becomes : goal.returns-clause-becomes
returns-clause-becomes g c = record { items = grind (arith, common_steps); place = c.take_last.ensures.becomes.place ∙ one_place refl (search rules) (search rules); slot_rule = search rules; fits = search rules }
