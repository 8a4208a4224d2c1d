use Rattle.std.specs.Prelude.{IsSome}
use Rattle.std.specs.List.{All}
use Rattle.tinyvec.specs.TinyVec.{tiny_items}
use Rattle.tinyvec_examples.proofs.readme.names.names.Given as goal

abbrev pub invariant-loop-name : goal.invariant-loop-name
invariant-loop-name l =
    (goal.iterator-loop-name).can_next l.name-iterator
    × (goal.iterator-loop-name).is_finite l.name-iterator
    × All IsSome (tiny_items l.names)
