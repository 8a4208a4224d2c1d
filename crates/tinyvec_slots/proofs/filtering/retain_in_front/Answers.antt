use Rattle.std.proofs.Common.{◌<◌, length, arith, of_calls, refl}
use Rattle.std.specs.Fn.{CalledAt}
use Rattle.std.proofs.lemmas.Fn.{called_at}
use Rattle.std.proofs.lemmas.List.{get_or_default}
use Rattle.tinyvec_slots.proofs.FiltersLemmas.{OnlyAsks, all_shown, keeps_item, drops_item, filtered_to, rewritten, IsFilteredTo-filtered}
use Rattle.tinyvec_slots.proofs.filtering.retain_in_front.Goals.{then-stays, else-stays}
use Rattle.tinyvec_slots.proofs.filtering.retain_in_front.Goals as goal

pub loop-i-preserved : goal.loop-i-preserved
loop-i-preserved g c =
    let at = c.loop-i in
    let h = at.invariant in
    let R = OnlyAsks (CalledAt g.F.FnMut) in
    let asked = called_at g.F.FnMut c.f-stays.ensures refl in
    let moved = c.move_down in
    let within : at.i < length at.items = omega arith in
    let is = get_or_default at.items at.i _ _ within in
    elim c.if-stays.branch [
      | then-stays w ↦ record {
        order = omega arith;
        callable = search of_calls;
        shown = rw w.kept-is
            (keeps_item R c.args.f.now at.f c.f-stays.new.self c.args.items.now at.items at.items moved.new.items at.kept at.i _ _ h.order within is (rewritten at.items at.i _ is) moved.ensures.behind h.shown
            (moved.ensures.moved w.if-stays.true) (rw w.if-stays.true at asked, refl));
      }
      | else-stays w ↦ record {
        order = omega arith;
        callable = search of_calls;
        shown = rw w.kept-is
            (drops_item R c.args.f.now at.f c.f-stays.new.self c.args.items.now at.items at.items moved.new.items at.kept at.i _ _ h.order within is (rewritten at.items at.i _ is) moved.ensures.behind h.shown
            moved.ensures.before (rw w.if-stays.false at asked, refl));
      }
    ]

pub returns-clause-asked : goal.returns-clause-asked
returns-clause-asked g c =
    filtered_to _ _ _ _ _ (all_shown _ c.args.items.now c.loop-i.items c.loop-i.kept c.loop-i.i c.loop-i.invariant.shown (omega arith))

pub returns-clause-filtered : goal.returns-clause-filtered
returns-clause-filtered g c = IsFilteredTo-filtered _ _ _ _ _ (returns-clause-asked g c)
