use Rattle.std.specs.Prelude.{length}
use Rattle.std.proofs.Common.{◌≡◌, ◌+◌, ◌≤◌, ◌++◌, List}
use Rattle.std.specs.Iterator.{Yields, IsFinite, size}
use Rattle.tinyvec.specs.Room.{GrowsByPushes}
use Rattle.tinyvec.specs.TinyVec.{view}
use Rattle.tinyvec.proofs.tiny_vec.extending.TinyVec+A.extend_runs.Given as goal

abbrev pub invariant-loop-item : goal.invariant-loop-item
invariant-loop-item g l = record {
  can : g.I.Iterator.can_next l.items;
  finite : IsFinite (g.I.Iterator.remaining l.items);
  ran : (placed : List g.row.A-Item.Denot) × Yields g.I.Iterator.next_gives l.initial.items placed l.items
      × ((view g.A.Slots l.self).items ≡ (view g.A.Slots l.initial.self).items ++ placed);
  no_longer : length (view g.A.Slots l.self).items + size (g.I.Iterator.remaining l.items) ≤ length (view g.A.Slots l.initial.self).items + size (g.I.Iterator.remaining l.initial.items);
  longer : length (view g.A.Slots l.initial.self).items ≤ length (view g.A.Slots l.self).items;
  grows : GrowsByPushes g.A.Item.Default.is_default (view g.A.Slots l.initial.self) (view g.A.Slots l.self);
}

abbrev pub decreases-loop-item : goal.decreases-loop-item
decreases-loop-item g l = size (g.I.Iterator.remaining l.items)
