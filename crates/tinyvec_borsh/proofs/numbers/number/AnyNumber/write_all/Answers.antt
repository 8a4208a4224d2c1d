use Rattle.std.proofs.Common.{◌∙◌, ◌+◌, ◌-◌, ◌*◌, ap, arith, drop, length-drop, length-take-le, rules, subst, take}
use Rattle.std.proofs.lemmas.List.{take-append-drop, take_all}
use Rattle.std.specs.List.{AllByRecursion}
use Rattle.tinyvec_borsh.specs.Items.{SpellsItems}
use Rattle.tinyvec_borsh.proofs.ItemByItem.{failed-since, none-failed}
use Rattle.tinyvec_borsh.proofs.NumberBlocks.{fit-block, until-end, wrote-block}
use Rattle.std.proofs.lemmas.Result.{err_from_is_err_and}
use Rattle.tinyvec_borsh.proofs.AtFaults.{fault-since, front-next-block}
use Rattle.tinyvec_borsh.proofs.numbers.number.AnyNumber.write_all.Goals as goal

pub loop-start-preserved : goal.loop-start-preserved
loop-start-preserved g c =
    let start = c.loop-start.start in
    let count = c.min-count.result in
    let joined = until-end start count c.args.items.now in
    let some = length-drop start c.args.items.now in
    let many = length-take-le (start + count - start) (drop start c.args.items.now) (omega (arith, some)) in
    record {
      wrote = wrote-block g.T.FixedWidth.form.Spells g.T.FixedWidth.form.Fits g.T.Bytes.Array.CAPACITY count _ _ _ _ c.encode.new.room _ _ _ joined (ap (λ m. take (count * m) c.encode.new.room) c.CAPACITY-width.ensures) (omega (arith, many)) c.loop-start.invariant.wrote c.encode.ensures.spelled c.in_ok-write_bytes.ensures.ok;
      fit = fit-block g.T.FixedWidth.form.Spells g.T.FixedWidth.form.Fits _ _ _ joined c.loop-start.invariant.fit c.encode.ensures.valid;
      room = search rules;
      within = omega arith;
      grows = omega arith;
      failed = c.in_ok-write_bytes.ensures.failed.exact ∙ c.loop-start.invariant.failed;
    }

pub returns-clause-writes : goal.returns-clause-writes
returns-clause-writes g c =
    let wrote = c.loop-start.invariant.wrote in
    let all = take_all c.loop-start.start c.args.items.now (omega arith) in
    record {
      ok = (wrote.bytes, subst (λ xs. SpellsItems g.T.FixedWidth.form.Spells xs wrote.bytes) all wrote.spelled, wrote.appended);
      err = tt;
      front = tt;
      grows = c.loop-start.invariant.grows;
      failed = none-failed c.loop-start.invariant.failed;
    }

pub returns-clause-valid : goal.returns-clause-valid
returns-clause-valid g c = subst (AllByRecursion g.T.FixedWidth.form.Fits) (take_all c.loop-start.start c.args.items.now (omega arith)) c.loop-start.invariant.fit

pub returns-in_err-write_bytes-clause-writes : goal.returns-in_err-write_bytes-clause-writes
returns-in_err-write_bytes-clause-writes g c =
    let p = err_from_is_err_and c.from_residual.result c.from_residual.ensures.1 in
    let start = c.loop-start.start in
    let count = c.min-count.result in
    let some = length-drop start c.args.items.now in
    let many = length-take-le (start + count - start) (drop start c.args.items.now) (omega (arith, some)) in
    let failed = c.in_err-write_bytes.ensures in
    rw (p.1, p.2) (record {
      ok = tt;
      err = fault-since c.loop-start.invariant.grows failed.err;
      front = front-next-block g.T.FixedWidth.form.Spells g.T.FixedWidth.form.code g.T.Bytes.Array.CAPACITY count (take start c.args.items.now) (take (start + count - start) (drop start c.args.items.now)) (drop (start + count - start) (drop start c.args.items.now)) c.args.items.now _ c.encode.new.room _ _ _
          (simp take-append-drop) (ap (λ m. take (count * m) c.encode.new.room) c.CAPACITY-width.ensures) (omega (arith, many)) c.loop-start.invariant.wrote c.encode.ensures.spelled failed.front;
      grows = omega arith;
      failed = failed-since c.loop-start.invariant.failed failed.failed;
    })
