use Rattle.std.proofs.Common.{◌∷◌, [], refl, ◌++◌, arith, of_calls}
use Rattle.std.specs.Fn.{Called}
use Rattle.std.proofs.SliceLists.{chained_more}
use Rattle.std.proofs.iter.Next.{called}
use Rattle.std.proofs.lemmas.List.{length_push}
use Rattle.tinyvec_slots.proofs.putting.put_answers.Goals as goal

pub loop-at-preserved : goal.loop-at-preserved
loop-at-preserved g c =
    let at = c.loop-at in
    let y = c.f.result in
    let run = at.invariant.ran in record {
      ran = (
        run.0 ++ y ∷ [],
        chained_more (λ f y f'. Called g.F.FnMut f tt y f') _ run.0 at.f y _ run.1 (called g.F.FnMut c.f.ensures refl),
        omega (arith, run.2, length_push run.0 y),
        c.put.ensures _ run.0 run.3 run.2 (omega (arith, c.loop-at-test.true, c.requires.room)),
      );
      callable = search of_calls;
    }
