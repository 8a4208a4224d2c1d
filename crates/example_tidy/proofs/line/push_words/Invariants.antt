use Rattle.std.proofs.Common.{◌≡◌, ◌≤◌, ◌++◌, List, ℕ, length}
use Rattle.std.specs.List.{dedup, join_with_byte}
use Rattle.std.specs.Str.{bytes_eq}
use Rattle.tinyvec.specs.TinyVec.{tiny_items, tiny_capacity}
use Rattle.example_tidy.specs.Tidy.{words}
use Rattle.example_tidy.proofs.Joining.{said}
use Rattle.example_tidy.proofs.line.push_words.Given as goal

-- what was said, and what will be said of the words that are left
abbrev pub invariant-loop-word : goal.invariant-loop-word
invariant-loop-word l = record {
  so_far : (front : List ℕ) × (tiny_items l.output ≡ tiny_items l.fn.output ++ front)
      × (front ++ said l.last (words l.left) ≡ join_with_byte 32 (dedup bytes_eq (words l.line)));
  room : tiny_capacity l.fn.output ≤ tiny_capacity l.output;
}

abbrev pub decreases-loop-word : goal.decreases-loop-word
decreases-loop-word l = length l.left
