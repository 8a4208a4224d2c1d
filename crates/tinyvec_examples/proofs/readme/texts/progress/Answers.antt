use Rattle.std.proofs.Common.{◌++◌, ap, ◌∙◌}
use Rattle.std.specs.Prelude.{codes}
use Rattle.std.specs.Fmt.{decimal}
use Rattle.std.proofs.lemmas.Fmt.{contents_after_writes}
use Rattle.tinyvec_array.specs.ArrayVec.{items}
use Rattle.tinyvec_examples.proofs.readme.texts.progress.Goals as goal

pub returns : goal.returns
returns c =
    let text = codes "copied " ++ (decimal c.args.done ++ (codes " of " ++ decimal c.args.all)) in
    contents_after_writes _ items (λ v bs w wrote. wrote.0) c.array_vec-v.result text c.write.new.self c.in_ok-write.ensures.writes
    ∙ ap (λ l. l ++ text) c.array_vec-v.ensures.items
