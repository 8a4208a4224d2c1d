use Rattle.std.proofs.Common.{◌<◌, ◌-◌, ◌∙◌, length, ap, refl, arith, length-take}
use Rattle.std.proofs.lemmas.Option.{slice_get_read}
use Rattle.tinyvec_slots.proofs.SlotsLemmas.{slots_used}
use Rattle.tinyvec_array.specs.ArrayVec.{view_of}
use Rattle.tinyvec_array.specs.View.{view}
use Rattle.tinyvec_array.specs.Lends.{with_items_of}
use Rattle.tinyvec_array.specs.CutLaws.{written_of}
use Rattle.tinyvec_array.specs.SpliceLaws.{changed_around, kept_refl}
use Rattle.tinyvec_array.specs.ViewLaws.{stays}
use Rattle.tinyvec_array.proofs.array_vec.filters.ArrayVec+S.pop_if.Goals as goal

pub returns-then-not-ask_last-clause-popped : goal.returns-then-not-ask_last-clause-popped
returns-then-not-ask_last-clause-popped g c =
    let shown = c.as_mut_slice.ensures.value in
    let written = written_of g.S.Slots c.args.self.now c.ask_last.new.items (c.ask_last.auto.items ∙ ap length shown) in
    rw (written.0, ← shown) (c.ask_last.ensures.stays c.if-not-ask_last.true)

pub returns-then-not-ask_last-clause-shorter : goal.returns-then-not-ask_last-clause-shorter
returns-then-not-ask_last-clause-shorter g c =
    let v = c.args.self.now in
    let D = g.S.Item.Default.is_default in
    let written = written_of g.S.Slots v c.ask_last.new.items (c.ask_last.auto.items ∙ ap length c.as_mut_slice.ensures.value) in
    let same = stays g.S.Slots D v v refl (slots_used D (view_of g.S.Slots v) (view_of g.S.Slots v) 0 (omega arith) refl) in
    record { bound = omega (arith, written.1.1.1); frame = changed_around g.S.Slots D v v v _ (kept_refl g.S.Slots v) same written.1 }

pub returns-clause-popped : goal.returns-clause-popped
returns-clause-popped g c =
    let shown = c.as_mut_slice.ensures.value in
    let written = written_of g.S.Slots c.args.self.now c.ask_last.new.items (c.ask_last.auto.items ∙ ap length shown) in
    let long = c.ask_last.auto.items in
    let goes = rw (← long) at c.ask_last.ensures.goes c.if-not-ask_last.false in
    let items = (view g.S.Slots (with_items_of g.S.Slots c.args.self.now c.ask_last.new.items)).items in
    let pos : length items - 1 < length items = omega (arith, ap length written.0, long, c.ask_last.ensures.some c.if-not-ask_last.false) in
    let value = slice_get_read items (length items) (length items - 1) c.take_last.result refl pos c.take_last.ensures.value in
    rw (c.take_last.ensures.becomes.items, ← value, written.0, ← shown) goes

pub returns-clause-shorter : goal.returns-clause-shorter
returns-clause-shorter g c =
    let v = c.args.self.now in
    let mid = with_items_of g.S.Slots v c.ask_last.new.items in
    let items = (view g.S.Slots mid).items in
    let cut = c.take_last.ensures.becomes in
    let written = written_of g.S.Slots v c.ask_last.new.items (c.ask_last.auto.items ∙ ap length c.as_mut_slice.ensures.value) in
    record {
      bound = omega (arith, ap length cut.items, written.1.1.1, length-take (length items - 1) items);
      frame = changed_around g.S.Slots g.S.Item.Default.is_default v mid c.take_last.new.self c.take_last.new.self written.1
          (record { items = refl; place = cut.place; slot_rule = cut.slot_rule; fits = cut.fits }) (kept_refl g.S.Slots c.take_last.new.self);
    }
