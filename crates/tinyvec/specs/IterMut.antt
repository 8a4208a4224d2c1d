-- What a `TinyVec` is after a borrow of its items one by one.
use Rattle.std.specs.Borrow.{Fml, RattleType, MutBor, Array, follows}
use Rattle.std.specs.Slice.Iter.{iter_mut_name}
use Rattle.std.specs.declared.slice.IterMut.{IterMut}
use Rattle.tinyvec_array.specs.declared.slots.Slots as Storage
use Rattle.tinyvec.specs.Lends.{tiny_with_items}
use Rattle.tinyvec.specs.declared.tiny_vec.TinyVec.{TinyVec}
use Rattle.tinyvec.specs.contracts.tiny_vec.TinyVec.{the_row}

module _ (A L I : RattleType) (g : Storage.Ghosts A.Denot I.Denot L.Denot) (v : MutBor (TinyVec A.Denot I.Denot L.Denot)) where
  -- once the borrow ends, the items are those that the slice of the iterator shows last
  abbrev pub lends_iter : IterMut I.Denot → Fml
  lends_iter it = follows (the_row A I L) (Array I 0) v.ghost_name (iter_mut_name it) (tiny_with_items g v.now)
