use Rattle.std.proofs.Common.{◌≡◌, ◌∷◌, rules}
use Rattle.std.specs.Option.{option_copied}
use Rattle.example_dns_query.specs.Line.{words}
use Rattle.example_dns_query.specs.Parts.{parts_left}
use Rattle.example_dns_query.proofs.LineLemmas.{some_left, not_three}
use Rattle.example_dns_query.proofs.line.three_words.Goals as goal

pub returns-then-is_some-clause-none : goal.returns-then-is_some-clause-none
returns-then-is_some-clause-none c = λ three.
    let first = c.first_part.result.0.now in
    let second = c.first_part-2.result.0.now in
    let third = c.first_part-3.result.0.now in
    let left = parts_left 32 (option_copied c.first_part-3.result.1) in
    let are : words c.args.line.now ≡ first ∷ second ∷ third ∷ left = search rules in
    not_three c.args.line.now first second third left are (some_left 32 c.first_part-3.result.1 (search rules)) three
