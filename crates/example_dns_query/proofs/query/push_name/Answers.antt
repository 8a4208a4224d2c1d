use Rattle.std.proofs.Common.{◌∷◌, []}
use Rattle.tinyvec_array.proofs.AppendsLemmas.{Appends-then, appended}
use Rattle.example_dns_query.proofs.query.push_name.Goals as goal

pub returns : goal.returns
returns c = Appends-then _ (0 ∷ []) _ _ _ c.push_labels.ensures (appended (0 ∷ []) _ _ c.push.ensures)
