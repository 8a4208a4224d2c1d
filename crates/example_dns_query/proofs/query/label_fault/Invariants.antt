use Rattle.std.proofs.Common.{◌≡◌, length}
use Rattle.std.specs.List.{flat_map}
use Rattle.std.specs.Option.{option_copied}
use Rattle.example_dns_query.specs.Name.{labels_in, first_fault, label_wire}
use Rattle.example_dns_query.proofs.query.label_fault.Given as goal

-- the labels that were met have no fault
abbrev pub invariant-loop-rest : goal.invariant-loop-rest
invariant-loop-rest l = first_fault (labels_in (option_copied l.rest)) ≡ first_fault (labels_in (option_copied l.body))

abbrev pub decreases-loop-rest : goal.decreases-loop-rest
decreases-loop-rest l = length (flat_map label_wire (labels_in (option_copied l.rest)))
