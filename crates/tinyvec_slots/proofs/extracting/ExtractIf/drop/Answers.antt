use Rattle.std.proofs.Common.{◌+◌, ◌++◌, length, take, sym, ap, ◌∙◌, append_assoc}
use Rattle.std.specs.List.{remove_range}
use Rattle.std.proofs.lemmas.List.Folds.{drop_split}
use Rattle.tinyvec_slots.proofs.extracting.ExtractIf.drop.Goals as goal

pub returns : goal.returns
returns g c = λ lies.
    let e = c.args.self in
    let xs = g.V.CanCut.items e.vec.now in
    let ys = c.close_gap-kept.new.items in
    let shown = c.as_mut_slice.ensures.value in
    let written = g.met.V.CanCut.written e.vec.now ys (c.close_gap-kept.auto.items ∙ ap length shown) in
    let cut = c.truncate.ensures in record {
      items_are = cut.items ∙ ap (take c.close_gap-kept.result) written.0 ∙ c.close_gap-kept.ensures.kept
          ∙ ap (λ l. remove_range l e.front (e.front + e.gap)) shown ∙ ap (λ l. take e.front xs ++ l) (drop_split xs (e.front + e.gap) e.end lies.0)
          ∙ sym (append_assoc (take e.front xs) _ _);
      cut = g.met.V.CanCut.kept_cut e.vec.now (g.V.CanCut.with_items e.vec.now ys) c.truncate.new.self written.1 cut.cut;
      fits = cut.fits;
    }
