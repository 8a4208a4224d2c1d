use Rattle.std.proofs.Common.{◌≡◌, ◌∷◌, ◌∙◌, ap, arith}
use Rattle.std.proofs.lemmas.List.Elements.{All-rest}
use Rattle.std.specs.Option.{option_copied}
use Rattle.example_dns_query.specs.Name.{IsLabel, labels_in, label_wire}
use Rattle.tinyvec_array.proofs.AppendsLemmas.{length-spare, appends_rest}
use Rattle.example_dns_query.proofs.NameLemmas.{wire_len-cut}
use Rattle.example_dns_query.proofs.query.push_labels.Goals as goal

pub loop-rest-preserved : goal.loop-rest-preserved
loop-rest-preserved c =
    let inv = c.loop-rest.invariant in
    let label = c.first_part.result.0.now in
    let labels = labels_in (option_copied c.loop-rest.rest) in
    let more = labels_in (option_copied c.first_part.result.1) in
    let cut : labels ≡ label ∷ more = ap (λ rest. labels_in (option_copied rest)) c.in-Some.is ∙ c.first_part.ensures in
    let left = length-spare (label_wire label) _ _ c.push_label.ensures in
    let long = wire_len-cut label labels more cut in
    record {
      are_labels = All-rest IsLabel label more labels cut inv.are_labels;
      room = omega (arith, left, long, inv.room);
      appends = appends_rest label_wire label _ labels more _ _ _ cut c.push_label.ensures inv.appends;
    }
