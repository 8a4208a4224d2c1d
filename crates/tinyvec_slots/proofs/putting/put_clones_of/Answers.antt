use Rattle.std.proofs.Common.{◌∷◌, [], ◌++◌, length, replicate, sym, ap, subst, ◌∙◌, arith}
use Rattle.std.proofs.lemmas.List.{length_push, replicate_more}
use Rattle.std.proofs.lemmas.List.Elements.{AllZip-push}
use Rattle.std.specs.List.{AllZip}
use Rattle.tinyvec_slots.proofs.putting.put_clones_of.Goals as goal

pub loop-at-preserved : goal.loop-at-preserved
loop-at-preserved g c =
    let run = c.loop-at.invariant in
    let x = c.args.x.now in
    let y = c.in-Ok.y in
    let more = replicate_more (length run.0) x ∙ ap (λ n. replicate n x) (sym (length_push run.0 y)) in (
      run.0 ++ y ∷ [],
      subst (λ l. AllZip g.V.Item.Clone.is_clone l (run.0 ++ y ∷ [])) more (AllZip-push g.V.Item.Clone.is_clone _ run.0 x y run.1 c.in-Ok.ensures.cases),
      omega (arith, run.2, length_push run.0 y),
      c.put.ensures _ run.0 run.3 run.2 (omega (arith, c.loop-at-test.true, c.requires.room)),
    )
