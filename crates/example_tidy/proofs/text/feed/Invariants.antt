use Rattle.std.proofs.Common.{◌≡◌, ◌≤◌, ◌++◌, List, ℕ, length}
use Rattle.tinyvec.specs.TinyVec.{tiny_items, tiny_capacity}
use Rattle.example_tidy.specs.Tidy.{Advances}
use Rattle.example_tidy.proofs.text.feed.Given as goal

-- what was said for the lines before the rest
abbrev pub invariant-loop-end : goal.invariant-loop-end
invariant-loop-end l = record {
  so_far : (taken : List ℕ) × (said : List ℕ) × (l.bytes ≡ taken ++ l.rest) × (tiny_items l.output ≡ tiny_items l.fn.output ++ said)
      × Advances (tiny_items l.fn.line) taken said (tiny_items l.line);
  line_room : tiny_capacity l.fn.line ≤ tiny_capacity l.line;
  room : tiny_capacity l.fn.output ≤ tiny_capacity l.output;
}

abbrev pub decreases-loop-end : goal.decreases-loop-end
decreases-loop-end l = length l.rest
