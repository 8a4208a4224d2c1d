use Rattle.std.proofs.Common.{rules, refl, nat_lt, ◌∙◌, ◌++◌}
use Rattle.tinyvec_slots.proofs.WholeExtracts.{extracted_once, find_by_test}
use Rattle.tinyvec_examples.proofs.extracting.first_above.Goals as goal

pub returns : goal.returns
returns c =
    let limit = c.args.limit in
    let once = extracted_once c.drop-chosen.ensures c.extract_if-chosen.ensures refl refl c.next.ensures.steps in
    let found = find_by_test _ (nat_lt limit) _ (λ x b t y h. search rules) _ _ _ _ _ once.asked in
    let left = once.items_are ∙ (λ i. found.1 i ++ found.2 i) in
    let same = once.same_reference in
    record { found = found.0; left = search rules }
