use Rattle.std.proofs.Common.{◌≡◌, ◌-◌, ◌*◌, ◌≤◌, IsTrue, length, max, min, map}
use Rattle.tinyvec_slots.specs.Slots.{AreDefaults}
use Rattle.tinyvec.specs.TinyVec.{view}
use Rattle.tinyvec_borsh.proofs.ItemByItem.{WasRead}
use Rattle.tinyvec_borsh.proofs.Place.{IsAt, IsPlaced}
use Rattle.tinyvec_borsh.proofs.lists.tiny_vec.TinyVecBorshDeserialize.deserialize_reader.Given as goal

-- the items so far were read, and are the list
abbrev pub invariant-loop-alloc : goal.invariant-loop-alloc
invariant-loop-alloc g l = record {
  read : WasRead g.A.Item.BorshForm.Spells g.A.Item.BorshForm.Fits l.count (map g.A.Item.BorshForm.content_of (view g.A.Slots l.v).items) (g.R.Read.remaining l.fn.reader.inner) (g.R.Read.remaining l.reader.inner);
  few : length (view g.A.Slots l.v).items ≤ l.count;
  place : IsPlaced g.A.Array.CAPACITY l.count (view g.A.Slots l.v);
  exact : IsAt g.A.Array.CAPACITY l.count (length (view g.A.Slots l.v).items) (view g.A.Slots l.v).place;
  spare : IsTrue (view g.A.Slots l.v).place.inline → AreDefaults g.A.Item.Default.is_default (g.A.Array.CAPACITY - length (view g.A.Slots l.v).items) (view g.A.Slots l.v).spare;
  room : (view g.A.Slots l.v).place.capacity ≤ max g.A.Array.CAPACITY (2 * l.count);
  ahead : max g.A.Array.CAPACITY (min l.count 1024) ≤ (view g.A.Slots l.v).place.capacity;
  grows : l.fn.reader.faults ≤ l.reader.faults;
  failed : l.reader.failed ≡ l.fn.reader.failed;
}

abbrev pub decreases-loop-alloc : goal.decreases-loop-alloc
decreases-loop-alloc g l = l.count - length (view g.A.Slots l.v).items
