use Rattle.std.proofs.Common.{◌≡◌, ◌≤◌, ◌-◌, length, take, replicate}
use Rattle.tinyvec_slots.specs.Clones.{ClonesBefore}
use Rattle.tinyvec_array.specs.ArrayVec.{SameLender}
use Rattle.tinyvec_array.specs.View.{view}
use Rattle.tinyvec_array.proofs.array_vec.extending.ArrayVec+S.cut_to_clones.Given as goal

abbrev pub invariant-loop-n : goal.invariant-loop-n
invariant-loop-n g l = record {
  enough : l.n ≤ length (view g.S.Slots l.self).items;
  shorter : length (view g.S.Slots l.self).items ≤ length (view g.S.Slots l.initial.self).items;
  kept : (view g.S.Slots l.self).items ≡ take (length (view g.S.Slots l.self).items) (view g.S.Slots l.initial.self).items;
  cloned : ClonesBefore g.S.Item.Clone.is_clone (replicate (length (view g.S.Slots l.initial.self).items - length (view g.S.Slots l.self).items) l.x)
      (view g.S.Slots l.initial.self).spare (view g.S.Slots l.self).spare;
  lender : SameLender g.S.Slots l.initial.self l.self;
}

abbrev pub decreases-loop-n : goal.decreases-loop-n
decreases-loop-n g l = length (view g.S.Slots l.self).items
