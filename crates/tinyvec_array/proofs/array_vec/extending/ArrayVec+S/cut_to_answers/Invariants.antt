use Rattle.std.proofs.Common.{◌≡◌, ◌≤◌, ◌-◌, List, ◌++◌, length, take}
use Rattle.std.specs.Prelude.{reverse}
use Rattle.std.specs.Fn.{Called}
use Rattle.std.specs.List.{FoldsTo}
use Rattle.tinyvec_array.specs.ArrayVec.{SameLender}
use Rattle.tinyvec_array.specs.View.{view}
use Rattle.tinyvec_array.proofs.array_vec.extending.ArrayVec+S.cut_to_answers.Given as goal

abbrev pub invariant-loop-self : goal.invariant-loop-self
invariant-loop-self g l = record {
  enough : l.n ≤ length (view g.S.Slots l.self).items;
  shorter : length (view g.S.Slots l.self).items ≤ length (view g.S.Slots l.initial.self).items;
  kept : (view g.S.Slots l.self).items ≡ take (length (view g.S.Slots l.self).items) (view g.S.Slots l.initial.self).items;
  ran : (ys : List g.row.S-Item.Denot) × (length ys ≡ length (view g.S.Slots l.initial.self).items - length (view g.S.Slots l.self).items)
      × ((view g.S.Slots l.self).spare ≡ reverse ys ++ (view g.S.Slots l.initial.self).spare)
      × FoldsTo (λ f y f'. Called g.F.FnMut f tt y f') l.initial.f ys l.f;
  callable : goal.F-IsAlwaysCallable g l.f;
  lender : SameLender g.S.Slots l.initial.self l.self;
}

abbrev pub decreases-loop-self : goal.decreases-loop-self
decreases-loop-self g l = length (view g.S.Slots l.self).items
