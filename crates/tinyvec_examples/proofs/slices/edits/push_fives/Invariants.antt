use Rattle.std.proofs.Common.{◌≡◌, ◌+◌, length, take, drop}
use Rattle.tinyvec_array.specs.SliceVec.{slice_items, slice_spare, slice_name}
use Rattle.tinyvec_examples.proofs.slices.edits.push_fives.Given as goal

abbrev pub invariant-loop-i : goal.invariant-loop-i
invariant-loop-i l = record {
  same_reference : slice_name l.v ≡ slice_name l.fn.v;
  kept : take (length (slice_items l.fn.v)) (slice_items l.v) ≡ slice_items l.fn.v;
  len : length (slice_items l.v) ≡ length (slice_items l.fn.v) + l._i;
  spare : slice_spare l.v ≡ drop l._i (slice_spare l.fn.v);
}
