use Rattle.tinyvec_array.proofs.AppendsLemmas.{Appends-then}
use Rattle.example_dns_query.proofs.query.push_query.Goals as goal

pub returns : goal.returns
returns c = Appends-then _ _ _ _ _ c.push_header.ensures (Appends-then _ _ _ _ _ c.push_name.ensures c.push_type.ensures)
