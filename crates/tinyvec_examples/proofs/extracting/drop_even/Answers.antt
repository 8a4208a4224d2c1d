use Rattle.std.proofs.Common.{rules, refl, ◌%◌, ◌==◌}
use Rattle.tinyvec_slots.proofs.WholeExtracts.{extracted_all, split_by_test}
use Rattle.tinyvec_examples.proofs.extracting.drop_even.Goals as goal

pub returns : goal.returns
returns c =
    let on = rw c.into_iter-iterator.ensures.into_iter_gives at c.loop.yielded_by in
    let all = extracted_all c.drop-iterator.ensures c.extract_if-items.ensures refl refl on c.in-None.ensures.steps in
    let split = split_by_test _ (λ x. x % 2 == 0) _ (λ x b t y h. search rules) _ _ _ all.asked in
    let left = split.1 in
    let same = all.same_reference in
    search rules
