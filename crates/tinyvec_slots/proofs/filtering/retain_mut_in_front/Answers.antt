use Rattle.std.proofs.Common.{◌<◌, length, set, arith, of_calls, refl}
use Rattle.std.specs.Fn.{CalledAtMut}
use Rattle.std.proofs.lemmas.List.{get_or_default}
use Rattle.std.proofs.RetainMut.{Called-Mut}
use Rattle.tinyvec_slots.proofs.FiltersLemmas.{all_shown, keeps_item, drops_item, RetainsTo-in_turn}
use Rattle.tinyvec_slots.proofs.filtering.retain_mut_in_front.Goals.{then-stays, else-stays}
use Rattle.tinyvec_slots.proofs.filtering.retain_mut_in_front.Goals as goal

pub loop-i-preserved : goal.loop-i-preserved
loop-i-preserved g c =
    let at = c.loop-i in
    let h = at.invariant in
    let R = CalledAtMut g.F.FnMut in
    let asked = Called-Mut g.F.FnMut c.f-stays.ensures in
    let left = set at.items at.i c.f-stays.new.arg2 in
    let moved = c.move_down in
    let within : at.i < length at.items = omega arith in
    let is = get_or_default at.items at.i _ _ within in
    elim c.if-stays.branch [
      | then-stays w ↦ record {
        order = omega arith;
        callable = search of_calls;
        shown = rw w.kept-is
            (keeps_item R c.args.f.now at.f c.f-stays.new.self c.args.items.now at.items left moved.new.items at.kept at.i _ c.f-stays.new.arg2 h.order within is refl moved.ensures.behind h.shown
            (moved.ensures.moved w.if-stays.true) (rw w.if-stays.true at asked));
      }
      | else-stays w ↦ record {
        order = omega arith;
        callable = search of_calls;
        shown = rw w.kept-is
            (drops_item R c.args.f.now at.f c.f-stays.new.self c.args.items.now at.items left moved.new.items at.kept at.i _ c.f-stays.new.arg2 h.order within is refl moved.ensures.behind h.shown
            moved.ensures.before (rw w.if-stays.false at asked));
      }
    ]

pub returns-clause-asked : goal.returns-clause-asked
returns-clause-asked g c = all_shown _ c.args.items.now c.loop-i.items c.loop-i.kept c.loop-i.i c.loop-i.invariant.shown (omega arith)

pub returns-clause-filtered : goal.returns-clause-filtered
returns-clause-filtered g c = RetainsTo-in_turn _ _ _ _ _ (returns-clause-asked g c)
