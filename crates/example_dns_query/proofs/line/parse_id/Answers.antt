use Rattle.example_dns_query.proofs.LineLemmas.{digits_are_text}
use Rattle.example_dns_query.proofs.line.parse_id.Goals as goal

pub returns-in_default-clause-none : goal.returns-in_default-clause-none
returns-in_default-clause-none c = λ id small decimal. c.in_default.ensures.cases.0 (digits_are_text c.args.word.now decimal.numeral.1)
