use Rattle.std.proofs.Common.{◌++◌, ◌∷◌, refl, sym, ap, ◌∙◌}
use Rattle.tinyvec.proofs.TinyLemmas.{collected}
use Rattle.tinyvec.proofs.PlaceLemmas.{collected_full}
use Rattle.tinyvec.specs.TinyVec.{view}
use Rattle.tinyvec.proofs.tiny_vec.extending.TinyVec+A.from_iter.Goals as goal

pub returns-in-Err-clause-listed : goal.returns-in-Err-clause-listed
returns-in-Err-clause-listed g c = λ rest shows.
    let h = c.in-Err.ensures.items.listed rest shows in
    let refused = c.in-Err.field-0 in
    (h.0, h.2, h.3 ∙ ap (λ l. l ++ refused.item ∷ rest refused.rest) (sym (h.4 ∙ ap (λ l. l ++ h.1) c.new-vec.ensures.items)))

pub returns-in-Ok-clause-listed : goal.returns-in-Ok-clause-listed
returns-in-Ok-clause-listed g c = λ rest shows.
    let h = c.in-Ok.ensures.items.listed rest shows in
    (h.0, h.2, h.3 ∙ sym (h.4 ∙ ap (λ l. l ++ h.1) c.new-vec.ensures.items))

pub returns-in-Ok-clause-known : goal.returns-in-Ok-clause-known
returns-in-Ok-clause-known g c = λ xs yields.
    let h = c.in-Ok.ensures.items.known xs yields in
    (h.0 ∙ ap (λ l. l ++ xs) c.new-vec.ensures.items, λ _. refl)

pub returns-in-Ok-clause-collected : goal.returns-in-Ok-clause-collected
returns-in-Ok-clause-collected g c =
    collected g.A.Item.Default.is_default g.A.Array.CAPACITY (view g.A.Slots c.new-vec.result) _ c.new-vec.ensures c.in-Ok.ensures.grows

pub returns-in-Err-clause-collected_so_far : goal.returns-in-Err-clause-collected_so_far
returns-in-Err-clause-collected_so_far g c =
    collected g.A.Item.Default.is_default g.A.Array.CAPACITY (view g.A.Slots c.new-vec.result) _ c.new-vec.ensures c.in-Err.ensures.grows

pub returns-in-Err-clause-full : goal.returns-in-Err-clause-full
returns-in-Err-clause-full g c =
    let full = c.in-Err.ensures.full in
    let h = collected_full g.A.Item.Default.is_default g.A.Array.CAPACITY _ (view g.A.Slots c.extend.new.self) (returns-in-Err-clause-collected_so_far g c) full in
    (full, h.0, h.1)
