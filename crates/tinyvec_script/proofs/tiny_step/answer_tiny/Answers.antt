use Rattle.std.proofs.Common.{◌≤◌, refl, arith, length}
use Rattle.std.proofs.lemmas.Grind.{common_steps}
use Rattle.std.proofs.lemmas.Option.{slice_get_read}
use Rattle.tinyvec.specs.TinyVec.{view}
use Rattle.tinyvec.specs.Room.{GrowsByPushes}
use Rattle.tinyvec_script.specs.Driving.{DrivenSplices}
use Rattle.tinyvec_script.specs.TinyCalls.{TinyAnswers}
use Rattle.tinyvec_script.specs.declared.call.Call.TheVariants.{Splice}
use Rattle.tinyvec_script.proofs.DrivingLemmas.{splice_answers}
use Rattle.tinyvec_script.proofs.tiny_step.answer_tiny.Goals as goal

pub returns-in-Ok-drive_splice-clause-answered : goal.returns-in-Ok-drive_splice-clause-answered
returns-in-Ok-drive_splice-clause-answered g c =
    let D = g.A.Item.Default.is_default in
    let slots = g.A.Array.CAPACITY in
    let old = c.args.vec.now in
    let new = c.drive_splice.new.vec in
    let start = c.in-Splice.start in
    let end = c.in-Splice.end in
    let word = c.in-Splice.word in
    let replacement = c.in-Splice.replacement in
    let in_order : start ≤ end = omega arith in
    let in_list : end ≤ length (view g.A.Slots old).items = omega arith in
    let answered = c.answer_driven.ensures in
    let driven = c.in-Ok-drive_splice.driven in
    let made = rw c.as_slice.ensures.value at c.in-Ok-drive_splice.ensures.splices in
    let did : DrivenSplices (λ v. v.items) (GrowsByPushes D) (view g.A.Slots new).place.capacity (view g.A.Slots old) start end word.items replacement.items driven.yields.items driven.rest.items
    (view g.A.Slots new) = record { list = made.list; grown = made.grown; no_shorter = made.no_shorter } in
    rw c.in-Splice.is (splice_answers (view g.A.Slots new).place.capacity (view g.A.Slots old).items (view g.A.Slots new).items start end word.items replacement.items driven.yields driven.rest
    c.answer_driven.result in_order in_list answered.items answered.spliced did.list
    (λ yields rest. DrivenSplices (λ v. v.items) (GrowsByPushes D) (view g.A.Slots new).place.capacity (view g.A.Slots old) start end word.items replacement.items yields rest (view g.A.Slots new)) did
    (λ answer. TinyAnswers D slots (view g.A.Slots old) (Splice start end word replacement) answer (view g.A.Slots new))
    (λ fits all. ((in_order, in_list), (fits, all))) (λ over some. ((in_order, in_list), (over, some))))

pub returns-in-Pop-clause-answered : goal.returns-in-Pop-clause-answered
returns-in-Pop-clause-answered g c = grind (arith, common_steps)

pub returns-in-Remove-clause-answered : goal.returns-in-Remove-clause-answered
returns-in-Remove-clause-answered g c =
    let made = c.remove.ensures in
    rw c.in-Remove.is (slice_get_read (view g.A.Slots c.args.vec.now).items _ c.in-Remove.i _ refl (omega arith) made.value, made.becomes)

pub returns-in-SwapRemove-clause-answered : goal.returns-in-SwapRemove-clause-answered
returns-in-SwapRemove-clause-answered g c =
    let made = c.swap_remove.ensures in
    rw c.in-SwapRemove.is (slice_get_read (view g.A.Slots c.args.vec.now).items _ c.in-SwapRemove.i _ refl (omega arith) made.value, made.becomes)

pub drain_into-requires-clause-room : goal.drain_into-requires-clause-room
drain_into-requires-clause-room g c = grind (arith, common_steps)

pub returns-in-Drain-clause-fits : goal.returns-in-Drain-clause-fits
returns-in-Drain-clause-fits g c = grind (arith, common_steps)
