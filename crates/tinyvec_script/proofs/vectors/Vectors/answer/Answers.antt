use Rattle.std.proofs.Common.{refl, subst}
use Rattle.tinyvec_array.specs.ArrayVec.{array_view}
use Rattle.tinyvec_script.specs.Script.{IsZero}
use Rattle.tinyvec_script.specs.Step.{ArrayStep}
use Rattle.tinyvec_script.proofs.vectors.Vectors.answer.Goals as goal

pub returns-in-A : goal.returns-in-A
returns-in-A g c =
    let old = array_view c.args.self.now.a in
    let step = subst (λ n. ArrayStep IsZero n old c.args.call c.answer_array.result (array_view c.answer_array.new.vec)) c.capacity-slots.ensures.slot_count c.answer_array.ensures.step in
    rw c.in-A.is (step, refl, refl, refl)
