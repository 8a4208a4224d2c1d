use Rattle.std.proofs.Common.{rules, refl, ◌<◌, ◌∷◌, [], arith}
use Rattle.std.proofs.lemmas.Grind.{common_steps}
use Rattle.std.proofs.lemmas.List.Elements.{All-cons, All-nil}
use Rattle.tinyvec_slots.proofs.BorderLemmas.{drop-popped}
use Rattle.tinyvec_array.specs.ViewLaws.{one_place}
use Rattle.tinyvec_array.proofs.RuleLemmas.{rule_freed}
use Rattle.tinyvec_array.proofs.array_vec.edits.ArrayVec+S.take_last.Goals as goal

pub returns-clause-becomes : goal.returns-clause-becomes
returns-clause-becomes g c =
    let v = c.args.self.now in
    let n = c.len-len.result in
    let d = c.take-item.new.dest in
    let one = All-cons g.S.Item.Default.is_default d [] c.take-item.ensures.after (All-nil _) in
    let pos : 0 < n = search rules in
    record {
      items = grind (arith, common_steps);
      place = one_place refl (search rules) (search rules);
      slot_rule = rule_freed g.S.Item.Default.is_default _ _ _ _ 1 (grind (arith, common_steps)) (d ∷ [], (refl, one), rw (g.S.Slots.slots_written, c.to_len.ensures.number, c.as_slice_mut.ensures.value) (drop-popped (g.S.Slots.count v.len) (g.S.Slots.slots v.slots) n c.len-len.ensures.value d pos));
      fits = search rules;
    }

pub returns-clause-last : goal.returns-clause-last
returns-clause-last g c = grind (arith, common_steps)

pub returns-clause-value : goal.returns-clause-value
returns-clause-value g c = grind (arith, common_steps)
