use Rattle.std.proofs.Common.{◌∙◌}
use Rattle.std.proofs.lemmas.Result.{on_ok_weaker}
use Rattle.tinyvec.proofs.PlaceLemmas.{heap_doubled}
use Rattle.tinyvec.proofs.tiny_vec.capacity.TinyVec+A.grow_full.Goals as goal

pub returns-clause-ok : goal.returns-clause-ok
returns-clause-ok g c =
    let len = c.len.ensures.value in
    on_ok_weaker c.grow.result (λ made. record {
      items = made.items;
      place = made.place ∙ heap_doubled _ _ _ (rw len at c.max-n.ensures) c.requires;
      slot_rule = made.slot_rule;
      fits = made.fits;
    }) c.grow.ensures.moves.ok
