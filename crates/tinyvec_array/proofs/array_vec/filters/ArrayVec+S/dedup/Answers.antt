use Rattle.std.proofs.Common.{rules}
use Rattle.std.proofs.lemmas.Fn.{dedup_same}
use Rattle.tinyvec_array.proofs.array_vec.filters.ArrayVec+S.dedup.Goals as goal

pub returns-clause-items : goal.returns-clause-items
returns-clause-items g c =
    dedup_same _ _ _ (λ x y b f' x' y' k. search rules) _ _ c.dedup_by.ensures.filtered
