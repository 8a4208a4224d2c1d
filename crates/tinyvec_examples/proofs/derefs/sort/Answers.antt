use Rattle.std.proofs.Common.{rules}
use Rattle.std.proofs.lemmas.List.Sorted.{IsNonDecreasingBy-from_sort}
use Rattle.tinyvec_array.proofs.Named.{array_slots}
use Rattle.tinyvec.proofs.TinyLemmas.{tiny_items-with}
use Rattle.tinyvec_examples.proofs.derefs.sort.Goals as goal

pub returns-clause-sorted : goal.returns-clause-sorted
returns-clause-sorted c = rw (tiny_items-with (array_slots 4) c.args.v.now c.sort_unstable.new.self (search rules))
    (IsNonDecreasingBy-from_sort (λ level. level) _ c.sort_unstable.ensures.sorted)

pub returns-clause-eq_slices : goal.returns-clause-eq_slices
returns-clause-eq_slices c = rw (tiny_items-with (array_slots 4) c.args.v.now c.sort_unstable.new.self (search rules)) (search rules)
