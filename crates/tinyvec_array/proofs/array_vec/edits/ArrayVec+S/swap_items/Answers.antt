use Rattle.std.proofs.Common.{◌≡◌, length, ap, ◌∙◌}
use Rattle.tinyvec_array.specs.View.{view}
use Rattle.tinyvec_array.specs.CutLaws.{written_of}
use Rattle.tinyvec_array.specs.SpliceLaws.{kept_count}
use Rattle.tinyvec_array.proofs.array_vec.edits.ArrayVec+S.swap_items.Goals as goal

pub returns : goal.returns
returns g c =
    let v = c.args.self.now in
    let long : length c.swap.new.self ≡ length (view g.S.Slots v).items = c.swap.ensures.len ∙ ap length c.as_mut_slice.ensures.value in
    let written = written_of g.S.Slots v c.swap.new.self long in
    record {
      lender = record { same_reference = written.1.0; slot_count = kept_count g.S.Slots _ _ written.1 };
      swapped = rw (written.0, ← c.as_mut_slice.ensures.value) c.swap.ensures.by_index;
      len = written.1.1.1;
      spare = written.1.1.0;
    }
