use Rattle.std.proofs.Common.{refl, rules, ◌<◌, ◌∷◌, [], arith, ◌∙◌}
use Rattle.std.proofs.lemmas.Grind.{common_steps}
use Rattle.std.proofs.lemmas.List.Elements.{All-cons, All-nil}
use Rattle.tinyvec_slots.proofs.Lists.{length-moved, take-moved}
use Rattle.tinyvec_array.specs.View.{view}
use Rattle.tinyvec_array.specs.ViewLaws.{one_place}
use Rattle.tinyvec_array.proofs.RuleLemmas.{rule_freed}
use Rattle.tinyvec_slots.proofs.BorderLemmas.{take-taken, drop-taken}
use Rattle.tinyvec_array.proofs.array_vec.edits.ArrayVec+S.remove.Goals as goal

pub returns-clause-becomes : goal.returns-clause-becomes
returns-clause-becomes g c =
    let less = length-moved (view g.S.Slots c.args.self.now).items _ c.args.index c.requires c.move_to_end.ensures.items in
    let rule = c.take_last.ensures.becomes.slot_rule in
    record {
      items = c.take_last.ensures.becomes.items ∙ take-moved (view g.S.Slots c.args.self.now).items _ c.args.index c.requires c.move_to_end.ensures.items;
      place = c.take_last.ensures.becomes.place ∙ one_place refl (search rules) (search rules);
      slot_rule = rw (← less, ← c.move_to_end.ensures.spare) rule;
      fits = c.take_last.ensures.becomes.fits;
    }

pub returns-then-prefers_shifting_in-clause-becomes : goal.returns-then-prefers_shifting_in-clause-becomes
returns-then-prefers_shifting_in-clause-becomes g c =
    let v = c.args.self.now in
    let n = c.len-len.result in
    let after = c.remove_shifting-item.ensures.after in
    let one = All-cons g.S.Item.Default.is_default after.0 [] after.1 (All-nil _) in
    let in_list : c.args.index < n = search rules in
    record {
      items = rw (g.S.Slots.slots_written, c.to_len.ensures.number, after.2, c.as_slice_mut.ensures.value) (take-taken (g.S.Slots.count v.len) (g.S.Slots.slots v.slots) n c.len-len.ensures.value c.args.index after.0 in_list);
      place = one_place refl (search rules) (search rules);
      slot_rule = rule_freed g.S.Item.Default.is_default _ _ _ _ 1 (grind (arith, common_steps)) (after.0 ∷ [], (refl, one), rw (g.S.Slots.slots_written, c.to_len.ensures.number, after.2, c.as_slice_mut.ensures.value) (drop-taken (g.S.Slots.count v.len) (g.S.Slots.slots v.slots) n c.len-len.ensures.value c.args.index after.0 in_list));
      fits = search rules;
    }

pub returns-then-prefers_shifting_in-clause-value : goal.returns-then-prefers_shifting_in-clause-value
returns-then-prefers_shifting_in-clause-value g c = grind (arith, common_steps)

pub returns-clause-value : goal.returns-clause-value
returns-clause-value g c = grind (arith, common_steps)

pub take_last-requires : goal.take_last-requires
take_last-requires g c = let long = length-moved (view g.S.Slots c.args.self.now).items _ c.args.index c.requires c.move_to_end.ensures.items in omega (arith, long, c.requires)
