use Rattle.std.proofs.Common.{◌∙◌, ap, sym, length}
use Rattle.std.specs.Option.{option_copied}
use Rattle.example_dns_query.specs.Name.{labels_in, name_wire}
use Rattle.example_dns_query.proofs.NameLemmas.{length-name_wire}
use Rattle.example_dns_query.proofs.query.name_len.Goals as goal

pub returns-in-Some : goal.returns-in-Some
returns-in-Some c = sym (ap (λ body. length (name_wire (labels_in (option_copied body)))) c.in-Some.is ∙ length-name_wire c.in-Some.text.now)
