use Rattle.std.proofs.Common.{◌≡◌, ◌+◌, List, length, replicate}
use Rattle.std.specs.List.{AllZip}
use Rattle.tinyvec_slots.proofs.putting.put_clones_of.Given as goal

abbrev pub invariant-loop-at : goal.invariant-loop-at
invariant-loop-at g l = (ys : List g.row.V-Item.Denot) × AllZip g.V.Item.Clone.is_clone (replicate (length ys) l.x) ys
    × (l.at ≡ length (g.V.CanPut.items l.initial.vec) + length ys) × g.V.CanPut.Puts l.initial.vec ys l.vec
