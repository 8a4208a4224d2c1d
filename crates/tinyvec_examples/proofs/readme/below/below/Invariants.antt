use Rattle.std.proofs.Common.{◌≡◌, ◌≤◌, nat_lt, length, take}
use Rattle.std.specs.List.{filter}
use Rattle.tinyvec.specs.TinyVec.{tiny_items, tiny_len, tiny_capacity, IsInline}
use Rattle.tinyvec_examples.proofs.readme.below.below.Given as goal

abbrev pub invariant-loop-number : goal.invariant-loop-number
invariant-loop-number l = record {
  so_far : tiny_items l.v ≡ filter (λ x. nat_lt x l.limit) (take l.number-index l.numbers);
  few : tiny_len l.v ≤ l.number-index;
  room : 8 ≤ tiny_capacity l.v;
  inline : length l.numbers ≤ 8 → IsInline l.v;
}
