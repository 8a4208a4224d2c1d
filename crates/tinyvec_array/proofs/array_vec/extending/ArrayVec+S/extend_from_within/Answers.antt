use Rattle.std.proofs.Common.{length, refl, ap, ◌∙◌, arith, rules}
use Rattle.tinyvec_slots.specs.Ranges.{items_within}
use Rattle.tinyvec_slots.proofs.BorderLemmas.{removed_in, clones_added, clones_not_added}
use Rattle.tinyvec_array.specs.ArrayVec.{view_of}
use Rattle.tinyvec_array.specs.View.{view}
use Rattle.tinyvec_array.proofs.ViewLemmas.{parts_of}
use Rattle.tinyvec_array.proofs.array_vec.extending.ArrayVec+S.extend_from_within.Goals as goal

pub returns-in_err-clone_within : goal.returns-in_err-clone_within
returns-in_err-clone_within g c =
    let v = c.args.self.now in
    let len = c.len-len in
    let part = c.resolve_range-part in
    let first = g.R.RangeBounds.start_bound c.args.range in
    let last = g.R.RangeBounds.end_bound c.args.range in
    let range = removed_in (view_of g.S.Slots v) first last len.result part.result.start part.result.end len.ensures.value part.ensures.start part.ensures.end c.requires.in_list in
    let written = g.S.Slots.slots_written v.slots c.clone_within.new.slots in
    let h = rw (c.as_slice_mut.ensures.value, range.0, ← written) at c.in_err-clone_within.ensures.refused in
    record {
      lender = record { same_reference = g.S.Slots.name_kept v.slots c.clone_within.new.slots; slot_count = ap length written ∙ c.clone_within.auto.slots ∙ ap length c.as_slice_mut.ensures.value };
      clones = clones_not_added g.S.Item.Clone (view_of g.S.Slots v) len.result len.ensures.value (items_within (view g.S.Slots v).items first last) _ c.requires.room _ (search rules) h.0 h.1 h.2;
    }

pub returns : goal.returns
returns g c =
    let v = c.args.self.now in
    let len = c.len-len in
    let part = c.resolve_range-part in
    let first = g.R.RangeBounds.start_bound c.args.range in
    let last = g.R.RangeBounds.end_bound c.args.range in
    let range = removed_in (view_of g.S.Slots v) first last len.result part.result.start part.result.end len.ensures.value part.ensures.start part.ensures.end c.requires.in_list in
    let written = g.S.Slots.slots_written v.slots c.clone_within.new.slots in
    let made = rw (c.as_slice_mut.ensures.value, range.0, ← written) at c.in_ok-clone_within.ensures.ok in
    record {
      lender = record { same_reference = g.S.Slots.name_kept v.slots c.clone_within.new.slots; slot_count = ap length written ∙ c.clone_within.auto.slots ∙ ap length c.as_slice_mut.ensures.value };
      clones = rw (c.to_len.ensures.number, range.1) (clones_added g.S.Item.Clone (view_of g.S.Slots v) len.result len.ensures.value (items_within (view g.S.Slots v).items first last) _ c.requires.room _ refl made);
    }

pub clone_within-requires-clause-fits : goal.clone_within-requires-clause-fits
clone_within-requires-clause-fits g c =
    let v = c.args.self.now in
    let len = c.len-len in
    let part = c.resolve_range-part in
    let first = g.R.RangeBounds.start_bound c.args.range in
    let last = g.R.RangeBounds.end_bound c.args.range in
    let range = removed_in (view_of g.S.Slots v) first last len.result part.result.start part.result.end len.ensures.value part.ensures.start part.ensures.end c.requires.in_list in
    omega (arith, range.1, parts_of g.S.Slots v, ap length c.as_slice_mut.ensures.value)

pub to_len-requires : goal.to_len-requires
to_len-requires g c =
    let v = c.args.self.now in
    let len = c.len-len in
    let part = c.resolve_range-part in
    let first = g.R.RangeBounds.start_bound c.args.range in
    let last = g.R.RangeBounds.end_bound c.args.range in
    let range = removed_in (view_of g.S.Slots v) first last len.result part.result.start part.result.end len.ensures.value part.ensures.start part.ensures.end c.requires.in_list in
    let written = g.S.Slots.slots_written v.slots c.clone_within.new.slots in
    omega (arith, range.1, parts_of g.S.Slots v, ap length c.as_slice_mut.ensures.value, c.clone_within.auto.slots, ap length written)
