use Rattle.tinyvec_array.proofs.IntoIterLemmas.{iterates_over}
use Rattle.tinyvec_array.proofs.array_vec.in_array.ArrayVecIntoIterator.into_iter.Goals as goal

pub returns : goal.returns
returns g c = record { into_iter_gives = iterates_over _ _ c.into_items.ensures.items c.into_items.ensures.bound }
