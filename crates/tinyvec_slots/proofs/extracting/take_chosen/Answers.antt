use Rattle.std.proofs.Common.{◌≡◌, ◌<◌, ◌∙◌, get_or, set, subst, sym, refl, arith, of_calls, length}
use Rattle.std.proofs.lemmas.List.{get_or-set_same, get_or_default}
use Rattle.std.proofs.RetainMut.{Called-Mut}
use Rattle.std.specs.Fn.{CalledAtMut}
use Rattle.tinyvec_slots.proofs.ExtractingLemmas.{turned_none, turned_more, back_same, found_none, found_some, found_back}
use Rattle.tinyvec_slots.proofs.extracting.take_chosen.Goals as goal

pub loop-at-init : goal.loop-at-init
loop-at-init g c = record {
  callable = c.requires.callable;
  so_far = turned_none (CalledAtMut g.F.FnMut) _ _ c.args.front c.args.gap c.args.end;
}

pub loop-at-preserved : goal.loop-at-preserved
loop-at-preserved g c =
    let at = c.loop-at in
    let R = CalledAtMut g.F.FnMut in
    let within : at.at < length at.items = omega arith in
    let moved = c.move_down.ensures in record {
      callable = search of_calls;
      so_far = turned_more R c.args.pred.now c.args.items.now c.args.front c.args.gap c.args.end at.pred at.items at.at at.invariant.so_far
          _ _ c.pred.new.arg2 (omega arith) (omega arith) (omega arith) (get_or_default at.items at.at _ _ within)
          _ (rw c.if-pred.false at (Called-Mut g.F.FnMut c.pred.ensures)) moved.behind (moved.moved refl);
    }

pub returns-then-pred-clause-asked : goal.returns-then-pred-clause-asked
returns-then-pred-clause-asked g c =
    let at = c.loop-at in
    let R = CalledAtMut g.F.FnMut in
    let within : at.at < length at.items = omega arith in
    let here = c.index-items-at-then-pred.is in
    let y = c.pred.new.arg2 in
    let read : c.take.result ≡ get_or (set at.items at.at y) at.at c.take.result =
    subst (λ r. r ≡ get_or (set at.items at.at y) at.at r) (here ∙ sym c.take.ensures.value) here in
    let same : c.take.result ≡ y = read ∙ get_or-set_same at.items at.at y c.take.result (omega arith) in
    found_some R c.args.pred.now c.args.items.now c.args.front c.args.gap c.args.end at.pred at.items at.at at.invariant.so_far
    _ _ y (omega arith) (omega arith) (omega arith) (get_or_default at.items at.at _ _ within)
    c.take.new.dest c.take.result (rw c.if-pred.true at (Called-Mut g.F.FnMut c.pred.ensures)) same _ (omega arith)

pub returns-then-pred-clause-back : goal.returns-then-pred-clause-back
returns-then-pred-clause-back g c =
    let at = c.loop-at in
    found_back (CalledAtMut g.F.FnMut) c.args.pred.now c.args.items.now c.args.front c.args.gap c.args.end at.pred at.items at.at at.invariant.so_far
    c.pred.new.self c.index-items-at.result c.pred.new.arg2 (omega arith) (omega arith) (omega arith) c.index-items-at.is c.take.new.dest

pub returns-clause-asked : goal.returns-clause-asked
returns-clause-asked g c =
    let at = c.loop-at in
    found_none (CalledAtMut g.F.FnMut) c.args.pred.now c.args.items.now c.args.front c.args.gap c.args.end at.pred at.items at.at at.invariant.so_far _ (omega arith) (omega arith)

pub returns-clause-back : goal.returns-clause-back
returns-clause-back g c =
    let at = c.loop-at in
    back_same (CalledAtMut g.F.FnMut) c.args.pred.now c.args.items.now c.args.front c.args.gap c.args.end at.pred at.items at.at at.invariant.so_far (omega arith)
