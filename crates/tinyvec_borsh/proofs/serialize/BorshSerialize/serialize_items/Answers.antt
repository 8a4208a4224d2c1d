use Rattle.std.proofs.Common.{◌∙◌, rules, arith}
use Rattle.tinyvec_borsh.proofs.ItemByItem.{failed-since, fit-next, wrote-next}
use Rattle.std.proofs.lemmas.Result.{err_from_is_err_and}
use Rattle.std.proofs.Common.{map, take, drop, ◌∷◌, suc}
use Rattle.tinyvec_borsh.proofs.AtFaults.{fault-since, front-first, front-items, parts_at}
use Rattle.tinyvec_borsh.proofs.serialize.BorshSerialize.serialize_items.Goals as goal

pub loop-item-preserved : goal.loop-item-preserved
loop-item-preserved g c = record {
  wrote = wrote-next g.Self.BorshForm.Spells g.Self.BorshForm.content_of _ _ c.item-item.result _ _ _ (omega arith) (search rules) c.loop-item.invariant.wrote c.in_ok-serialize.ensures.writes.ok;
  fit = fit-next g.Self.BorshForm.content_of g.Self.BorshForm.Fits _ _ c.item-item.result (omega arith) (search rules) c.loop-item.invariant.fit c.in_ok-serialize.ensures.valid;
  grows = omega arith;
  failed = c.in_ok-serialize.ensures.writes.failed.exact ∙ c.loop-item.invariant.failed;
}

pub returns-in_err-serialize-clause-writes : goal.returns-in_err-serialize-clause-writes
returns-in_err-serialize-clause-writes g c =
    let p = err_from_is_err_and c.from_residual.result c.from_residual.ensures.1 in
    let content = g.Self.BorshForm.content_of in
    let item = c.item-item.result in
    let i = c.loop-item.item-index in
    let failed = c.in_err-serialize.ensures.writes in
    rw (p.1, p.2) (record {
      ok = tt;
      err = fault-since c.loop-item.invariant.grows failed.err;
      front = front-items g.Self.BorshForm.Spells g.Self.BorshForm.code (map content (take i c.args.items.now)) (content item ∷ map content (drop (suc i) c.args.items.now)) _ _ _ _
          (parts_at content c.args.items.now i item (omega arith) (search rules)) c.loop-item.invariant.wrote (front-first _ _ failed.front);
      grows = omega arith;
      failed = failed-since c.loop-item.invariant.failed failed.failed;
    })
