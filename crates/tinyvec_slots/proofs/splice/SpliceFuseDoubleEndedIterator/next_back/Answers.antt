use Rattle.std.proofs.Common.{◌∙◌, length, refl, sym, ap}
use Rattle.tinyvec_slots.proofs.SpliceLemmas.{none_left, fewer_left}
use Rattle.tinyvec_slots.proofs.splice.SpliceFuseDoubleEndedIterator.next_back.Goals as goal

pub returns-then-is_empty-clause-steps : goal.returns-then-is_empty-clause-steps
returns-then-is_empty-clause-steps g c = (none_left c.args.self.now.gap (g.V.CanCut.items c.args.self.now.vec.now) (sym c.is_empty.ensures ∙ c.if-is_empty.true), refl)

pub returns-clause-steps : goal.returns-clause-steps
returns-clause-steps g c =
    let vec = c.args.self.now.vec.now in
    let met = c.take_last.ensures in
    let shown = c.as_mut_slice-slots.ensures.value in
    let written = g.met.V.CanCut.written vec c.take_last.new.slots (c.take_last.auto.slots ∙ ap length shown) in (
      rw (written.0, ← shown) met.gives,
      record { same_reference = refl; kept = written.1; ready = λ _. rw written.0 met.ready },
    )

pub returns-clause-goes : goal.returns-clause-goes
returns-clause-goes g c =
    let vec = c.args.self.now.vec.now in
    let met = c.take_last.ensures in
    let written = g.met.V.CanCut.written vec c.take_last.new.slots (c.take_last.auto.slots ∙ ap length c.as_mut_slice-slots.ensures.value) in
    let ready = rw (← written.0) at met.ready in record {
      on = λ _. ((ready, met.can), tt, fewer_left _ _ met.fewer);
      keeps = (ready, met.can);
      rests = λ _. tt;
    }

pub returns-clause-ready : goal.returns-clause-ready
returns-clause-ready g c =
    let vec = c.args.self.now.vec.now in
    rw (g.met.V.CanCut.written vec c.take_last.new.slots (c.take_last.auto.slots ∙ ap length c.as_mut_slice-slots.ensures.value)).0 c.take_last.ensures.ready

pub returns-clause-finite : goal.returns-clause-finite
returns-clause-finite g c = c.take_last.ensures.finite
