use Rattle.std.proofs.Common.{length, ap, rules, arith, refl}
use Rattle.std.proofs.lemmas.Grind.{common_steps}
use Rattle.tinyvec_slots.proofs.BorderLemmas.{drop-pushed, within}
use Rattle.tinyvec_array.specs.View.{NothingVacated}
use Rattle.tinyvec_array.specs.ViewLaws.{one_place}
use Rattle.tinyvec_array.proofs.RuleLemmas.{rule_used}
use Rattle.tinyvec_array.proofs.ViewLemmas.{parts_of}
use Rattle.tinyvec_array.proofs.array_vec.edits.ArrayVec+S.push.Goals as goal

pub returns : goal.returns
returns g c =
    let v = c.args.self.now in
    record {
      items = grind (arith, common_steps);
      place = one_place refl (search rules) (search rules);
      slot_rule = rule_used NothingVacated _ _ _ _ 1 (grind (arith, common_steps)) (rw (g.S.Slots.slots_written, c.to_len.ensures.number, c.as_slice_mut.ensures.value) (drop-pushed (g.S.Slots.count v.len) (g.S.Slots.slots v.slots) c.len-len.result c.len-len.ensures.value c.args.value));
      fits = within _ _ _ refl;
    }

pub overflow_add-len : goal.overflow_add-len
overflow_add-len g c = omega (arith, parts_of g.S.Slots c.args.self.now)

pub bounds-as_slice_mut-len : goal.bounds-as_slice_mut-len
bounds-as_slice_mut-len g c = omega (arith, parts_of g.S.Slots c.args.self.now, ap length c.as_slice_mut.ensures.value)
