use Rattle.std.proofs.Common.{◌+◌, ◌-◌, ◌++◌, take, drop, length, length-take, length-drop, length-append, refl, sym, ap, ◌∙◌, arith, rules}
use Rattle.std.proofs.Math.Seq.{take-add}
use Rattle.std.proofs.lemmas.List.{take_rest}
use Rattle.tinyvec.proofs.CloneLemmas.{appends_of_next, appends_join, appends_len, refused_at}
use Rattle.tinyvec.proofs.RefusedLemmas.{refused_in_front, refused_later}
use Rattle.tinyvec.proofs.tuned.push_until_refused.Goals as goal

pub returns-in_default-clause-refused : goal.returns-in_default-clause-refused
returns-in_default-clause-refused g c = λ _.
    refused_later g.T.Clone.is_infallible c.args.from.now c.loop-done.done c.in_default.ensures.refused

pub loop-done-preserved : goal.loop-done-preserved
loop-done-preserved g c =
    let at = c.loop-done in
    let from = c.args.from.now in
    let put = c.push_whole.ensures in
    let made = c.in-Ok.ensures in
    let part = take (length from - at.done) (drop at.done from) in
    record {
      within = omega (arith, c.loop-done-test.true, at.invariant.within);
      cloned = appends_join g.T.Clone.is_clone c.args.vec.now.items at.vec.items c.push_whole.new.vec.items (take at.done from) (take 16 part) (take (at.done + 16) from)
          (ap (λ l. take at.done from ++ take 16 l) (take_rest from at.done) ∙ sym (take-add at.done 16 from))
          at.invariant.cloned (c.in-Ok.block, put.items, made.cloned);
      room = omega (arith, c.push_whole.new.vec.ok.0, at.vec.ok.0, ap length put.items, length-append at.vec.items c.in-Ok.block, made.len, put.capacity, at.invariant.room, c.loop-done-test.true, at.invariant.within);
      capacity = put.capacity ∙ at.invariant.capacity;
    }

pub returns-in_default-push_four-clause-refused : goal.returns-in_default-push_four-clause-refused
returns-in_default-push_four-clause-refused g c = λ _.
    let I = g.T.Clone.is_infallible in
    let from = c.args.from.now in
    let at = c.in_default-push_four.ensures.refused in
    refused_later I from c.loop-done-2.done (at.0, refused_in_front I (take (length from - c.loop-done-2.done) (drop c.loop-done-2.done from)) 4 at.0 at.1)

pub loop-done-2-preserved : goal.loop-done-2-preserved
loop-done-2-preserved g c =
    let at = c.loop-done-2 in
    let from = c.args.from.now in
    let put = c.in-Ok-push_four.ensures in
    let part = take (length from - at.done) (drop at.done from) in
    let cloned = appends_join g.T.Clone.is_clone c.args.vec.now.items at.vec.items c.push_four.new.vec.items (take at.done from) (take 4 part) (take (at.done + 4) from)
    (ap (λ l. take at.done from ++ take 4 l) (take_rest from at.done) ∙ sym (take-add at.done 4 from)) at.invariant.cloned put.items in
    record {
      within = omega (arith, c.loop-done-2-test.true, at.invariant.within);
      cloned = cloned;
      room = omega (
        arith,
        c.push_four.new.vec.ok.0,
        at.vec.ok.0,
        appends_len g.T.Clone.is_clone at.vec.items c.push_four.new.vec.items (take 4 part) put.items,
        length-take 4 part,
        length-take (length from - at.done) (drop at.done from),
        length-drop at.done from,
        put.capacity,
        at.invariant.room,
        at.invariant.within,
        c.loop-done-2-test.true,
      );
      capacity = put.capacity ∙ at.invariant.capacity;
    }

pub loop-i-preserved : goal.loop-i-preserved
loop-i-preserved g c =
    let at = c.loop-i in
    record {
      cloned = rw c.push_reserved.ensures.items (appends_of_next g.T.Clone.is_clone c.args.vec.now.items at.vec.items c.args.from.now at.i (at.i + 1)
          c.index-from-i.result c.in-Ok-clone.x c.loop-i-test.true refl c.index-from-i.is c.in-Ok-clone.ensures.cases at.invariant.cloned);
      room = search rules;
      capacity = search rules;
    }

pub returns-in_default-clone-clause-refused : goal.returns-in_default-clone-clause-refused
returns-in_default-clone-clause-refused g c = λ _.
    let at = c.index-from-i in
    refused_at g.T.Clone.is_infallible c.args.from.now c.loop-i.i at.result c.loop-i-test.true at.is c.in_default-clone.ensures.cases
