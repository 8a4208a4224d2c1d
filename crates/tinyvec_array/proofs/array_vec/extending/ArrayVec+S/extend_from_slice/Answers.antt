use Rattle.std.proofs.Common.{length, refl, ap, ◌∙◌, arith, rules}
use Rattle.tinyvec_slots.proofs.BorderLemmas.{clones_added, clones_not_added}
use Rattle.tinyvec_array.specs.ArrayVec.{view_of}
use Rattle.tinyvec_array.proofs.ViewLemmas.{parts_of}
use Rattle.tinyvec_array.proofs.array_vec.extending.ArrayVec+S.extend_from_slice.Goals as goal

pub returns-in_err-write_clones : goal.returns-in_err-write_clones
returns-in_err-write_clones g c =
    let v = c.args.self.now in
    let written = g.S.Slots.slots_written v.slots c.write_clones.new.slots in
    let h = rw (c.as_slice_mut.ensures.value, ← written) at c.in_err-write_clones.ensures.refused in
    record {
      lender = record { same_reference = g.S.Slots.name_kept v.slots c.write_clones.new.slots; slot_count = ap length written ∙ c.write_clones.auto.slots ∙ ap length c.as_slice_mut.ensures.value };
      clones = clones_not_added g.S.Item.Clone (view_of g.S.Slots v) c.len-len.result c.len-len.ensures.value c.args.other.now _ c.requires.room _ (search rules) h.0 h.1 h.2;
    }

pub returns : goal.returns
returns g c =
    let v = c.args.self.now in
    let written = g.S.Slots.slots_written v.slots c.write_clones.new.slots in
    let made = rw (c.as_slice_mut.ensures.value, ← written) at c.in_ok-write_clones.ensures.ok in
    record {
      lender = record { same_reference = g.S.Slots.name_kept v.slots c.write_clones.new.slots; slot_count = ap length written ∙ c.write_clones.auto.slots ∙ ap length c.as_slice_mut.ensures.value };
      clones = rw c.to_len.ensures.number (clones_added g.S.Item.Clone (view_of g.S.Slots v) c.len-len.result c.len-len.ensures.value c.args.other.now _ c.requires.room _ refl made);
    }

pub write_clones-requires : goal.write_clones-requires
write_clones-requires g c = record { fits = omega (arith, parts_of g.S.Slots c.args.self.now, ap length c.as_slice_mut.ensures.value) }

pub to_len-requires : goal.to_len-requires
to_len-requires g c =
    let v = c.args.self.now in
    let written = g.S.Slots.slots_written v.slots c.write_clones.new.slots in
    omega (arith, parts_of g.S.Slots v, ap length c.as_slice_mut.ensures.value, c.write_clones.auto.slots, ap length written)
