use Rattle.std.specs.Prelude.{All}
use Rattle.std.proofs.Common.{[], length, sym, ap, subst, ◌∙◌}
use Rattle.tinyvec.specs.Lends.{tiny_with_items}
use Rattle.tinyvec.specs.SpliceLaws.{frame_becomes}
use Rattle.tinyvec.proofs.TinyLemmas.{tiny_framed-with, tiny_items-with}
use Rattle.tinyvec.specs.TinyVec.{view}
use Rattle.tinyvec.proofs.tiny_vec.extending.TinyVec+A.append_reserved.Goals as goal

pub clear_defaults-requires : goal.clear_defaults-requires
clear_defaults-requires g c =
    let left = c.append_slots.ensures.left in
    subst (All g.A.Item.Default.is_default) (sym (tiny_items-with g.A.Slots c.args.other.now c.append_slots.new.from (left.0 ∙ ap length c.as_mut_slice.ensures.value))) left.1

pub returns-clause-other : goal.returns-clause-other
returns-clause-other g c =
    let old = c.args.other.now in
    let left = c.append_slots.new.from in
    let frame = tiny_framed-with g.A.Slots old left (c.append_slots.ensures.left.0 ∙ ap length c.as_mut_slice.ensures.value) in
    frame_becomes g.A.Item.Default.is_default (view g.A.Slots old) (view g.A.Slots (tiny_with_items g.A.Slots old left)) (view g.A.Slots c.clear_defaults.new.self) [] frame c.clear_defaults.ensures
