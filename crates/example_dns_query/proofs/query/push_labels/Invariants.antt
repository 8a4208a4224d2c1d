use Rattle.std.proofs.Common.{◌≤◌, ℕ, length, All}
use Rattle.std.specs.List.{flat_map}
use Rattle.std.specs.Option.{option_copied}
use Rattle.tinyvec_array.specs.SliceVec.{slice_spare}
use Rattle.tinyvec_array.specs.Appends.{LentVec, Appends}
use Rattle.example_dns_query.specs.Name.{IsLabel, labels_in, label_wire}
use Rattle.example_dns_query.proofs.query.push_labels.Given as goal

-- what appends the labels that are left has appended all
abbrev pub invariant-loop-rest : goal.invariant-loop-rest
invariant-loop-rest l = record {
  are_labels : All IsLabel (labels_in (option_copied l.rest));
  room : length (flat_map label_wire (labels_in (option_copied l.rest))) ≤ length (slice_spare l.message);
  appends : (end : LentVec ℕ) → Appends (flat_map label_wire (labels_in (option_copied l.rest))) l.message end
      → Appends (flat_map label_wire (labels_in (option_copied l.body))) l.initial.message end;
}

abbrev pub decreases-loop-rest : goal.decreases-loop-rest
decreases-loop-rest l = length (flat_map label_wire (labels_in (option_copied l.rest)))
