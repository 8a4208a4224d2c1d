use Rattle.std.proofs.Common.{◌<◌, length, arith}
use Rattle.std.specs.Fn.{ComparesKeys}
use Rattle.tinyvec_slots.proofs.FiltersLemmas.{all_shown, dedup_none, first_stays, drops_repeat, keeps_other, IsDedupedTo-deduped}
use Rattle.tinyvec_slots.proofs.filtering.dedup_keys_in_front.Goals.{then-not-compare_keys, else-not-compare_keys}
use Rattle.tinyvec_slots.proofs.filtering.dedup_keys_in_front.Goals as goal

pub loop-i-init : goal.loop-i-init
loop-i-init g c = record {
  some = omega arith;
  order = omega arith;
  callable = c.requires;
  shown = first_stays (ComparesKeys g.F.FnMut g.K.PartialEq.eq) c.args.key.now c.args.items.now c.if-count-eq0.false;
}

pub loop-i-preserved : goal.loop-i-preserved
loop-i-preserved g c =
    let at = c.loop-i in
    let h = at.invariant in
    let R = ComparesKeys g.F.FnMut g.K.PartialEq.eq in
    let within : at.i < length at.items = omega arith in
    let ask = c.compare_keys.ensures in
    elim c.if-not-compare_keys.branch [
      | then-not-compare_keys w ↦ rw (w.items-is, w.kept-is, w.swap.ensures.after) (record {
        some = omega arith;
        order = omega arith;
        callable = ask.callable;
        shown = keeps_other R c.args.key.now at.key _ c.args.items.now at.items _ at.kept at.i h.some h.order within h.shown (rw w.if-not-compare_keys.true at ask.asked);
      })
      | else-not-compare_keys w ↦ rw (w.items-is, w.kept-is) (record {
        some = h.some;
        order = omega arith;
        callable = ask.callable;
        shown = drops_repeat R c.args.key.now at.key _ c.args.items.now at.items _ at.kept at.i h.some h.order within h.shown (rw w.if-not-compare_keys.false at ask.asked);
      })
    ]

pub returns-clause-asked : goal.returns-clause-asked
returns-clause-asked g c = all_shown _ c.args.items.now c.loop-i.items c.loop-i.kept c.loop-i.i c.loop-i.invariant.shown (omega arith)

pub returns-clause-filtered : goal.returns-clause-filtered
returns-clause-filtered g c = IsDedupedTo-deduped _ _ _ _ _ (returns-clause-asked g c)

pub returns-then-count-eq0-clause-asked : goal.returns-then-count-eq0-clause-asked
returns-then-count-eq0-clause-asked g c = dedup_none (ComparesKeys g.F.FnMut g.K.PartialEq.eq) c.args.key.now c.args.items.now c.if-count-eq0.true

pub returns-then-count-eq0-clause-filtered : goal.returns-then-count-eq0-clause-filtered
returns-then-count-eq0-clause-filtered g c = IsDedupedTo-deduped _ _ _ _ _ (returns-then-count-eq0-clause-asked g c)
