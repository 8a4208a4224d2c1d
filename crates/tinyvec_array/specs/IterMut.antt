-- What a vector over slots ends as when its items are lent one by one.
use Rattle.std.specs.Borrow.{Fml, RattleType, MutBor, Array, follows}
use Rattle.std.specs.Slice.Iter.{iter_mut_name}
use Rattle.std.specs.declared.slice.IterMut.{IterMut}
use Rattle.tinyvec_array.specs.Lends.{with_items_of}
use Rattle.tinyvec_array.specs.declared.slots.Slots as Storage
use Rattle.tinyvec_array.specs.declared.array_vec.ArrayVec.{ArrayVec}
use Rattle.tinyvec_array.specs.contracts.array_vec.ArrayVec.{the_row}

module _ (S L I : RattleType) (g : Storage.Ghosts S.Denot I.Denot L.Denot) (v : MutBor (ArrayVec S.Denot L.Denot)) where
  -- once the borrow ends, the items are those that the slice of the iterator shows last
  abbrev pub lends_iter : IterMut I.Denot → Fml
  lends_iter it = follows (the_row S L) (Array I 0) v.ghost_name (iter_mut_name it) (with_items_of g v.now)
