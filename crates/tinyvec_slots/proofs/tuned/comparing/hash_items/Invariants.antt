use Rattle.std.proofs.Common.{◌≡◌, drop, fold}
use Rattle.std.specs.List.{flat_map}
use Rattle.tinyvec_slots.proofs.tuned.comparing.hash_items.Given as goal

-- the items that are left take the hasher to where all of them take it
abbrev pub invariant-loop-item : goal.invariant-loop-item
invariant-loop-item g l =
    fold g.H.Hasher.write l.state (flat_map g.T.Hash.hash_input (drop l.item-index l.items)) ≡ fold g.H.Hasher.write l.initial.state (flat_map g.T.Hash.hash_input l.items)
