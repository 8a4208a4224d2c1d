use Rattle.std.proofs.Common.{subst, rules}
use Rattle.std.proofs.lemmas.Fn.{dedup_same}
use Rattle.tinyvec.specs.View.{Becomes}
use Rattle.tinyvec.specs.TinyVec.{view}
use Rattle.tinyvec.proofs.tiny_vec.filters.TinyVec+A.dedup.Goals as goal

pub returns-clause-becomes : goal.returns-clause-becomes
returns-clause-becomes g c =
    subst (Becomes g.A.Item.Default.is_default (view g.A.Slots c.args.self.now) (view g.A.Slots c.dedup_by.new.self))
    (dedup_same _ _ _ (λ x y b f' x' y' k. search rules) _ _ c.dedup_by.ensures.filtered)
    c.dedup_by.ensures.shortens.frame
