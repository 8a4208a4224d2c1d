use Rattle.std.proofs.Common.{◌≡◌, ◌-◌, ◌<◌, ◌≤◌, ◌∷◌, [], Some, length, take, slice_index_or, refl, sym, ap, ◌∙◌, arith, rules}
use Rattle.std.proofs.lemmas.Grind.{common_steps}
use Rattle.std.proofs.lemmas.List.Elements.{All-cons, All-nil}
use Rattle.std.proofs.lemmas.Option.{slice_get-get_or}
use Rattle.tinyvec_slots.proofs.BorderLemmas.{drop-popped, list_to, within}
use Rattle.tinyvec_array.specs.ViewLaws.{one_place}
use Rattle.tinyvec_array.proofs.PartLemmas.{with_part-last}
use Rattle.tinyvec_array.proofs.RuleLemmas.{rule_freed}
use Rattle.tinyvec_array.proofs.array_vec.edits.ArrayVec+S.pop.Goals as goal

pub returns-clause-becomes : goal.returns-clause-becomes
returns-clause-becomes g c =
    let v = c.args.self.now in
    let slots = g.S.Slots.slots v.slots in
    let n = c.len-len.result in
    let d = c.take-item.new.dest in
    let one = All-cons g.S.Item.Default.is_default d [] c.take-item.ensures.after (All-nil _) in
    let pos : 0 < n = search rules in
    let le : n ≤ length slots = within (g.S.Slots.count v.len) slots n c.len-len.ensures.value in
    let written = with_part-last slots c.part_of.result.now n d c.part_of.ensures.value pos le in
    rw written (record {
      items = grind (arith, common_steps);
      place = one_place refl (search rules) (search rules);
      slot_rule = rule_freed g.S.Item.Default.is_default _ _ _ _ 1 (grind (arith, common_steps)) (d ∷ [], (refl, one), rw (g.S.Slots.slots_written, c.to_len.ensures.number) (drop-popped (g.S.Slots.count v.len) slots n c.len-len.ensures.value d pos));
      fits = search rules;
    })

pub returns-clause-value : goal.returns-clause-value
returns-clause-value g c =
    let v = c.args.self.now in
    let slots = g.S.Slots.slots v.slots in
    let n = c.len-len.result in
    let x = c.in-Some.last.now in
    let list = take (g.S.Slots.count v.len) slots in
    let all : n - 0 ≡ n = omega (arith) in
    let lent : c.part_of.result.now ≡ list = c.part_of.ensures.value ∙ ap (λ k. take k slots) all ∙ list_to (g.S.Slots.count v.len) slots n c.len-len.ensures.value in
    let pos : 0 < n = search rules in
    ap Some (c.take-item.ensures.value ∙ c.in-Some.ensures.item.1 ∙ ap (λ l. slice_index_or l (length l - 1) x) lent)
    ∙ sym (slice_get-get_or list (length list - 1) x (omega (arith, pos, c.len-len.ensures.value)))
