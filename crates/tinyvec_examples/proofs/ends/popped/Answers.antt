use Rattle.std.proofs.Common.{◌≡◌, ◌+◌, ◌∷◌, [], pos, rules, refl, drop, ap, ◌∙◌}
use Rattle.tinyvec_slots.proofs.SlotsLemmas.{zeros_are, freed, slots_are}
use Rattle.tinyvec_array.specs.ArrayVec.{items, spare, array_view, items_len}
use Rattle.tinyvec_array.specs.View.{NothingVacated}
use Rattle.tinyvec_array.specs.ViewLaws.{used_by, freed_by}
use Rattle.tinyvec_examples.proofs.ends.popped.Goals as goal

pub returns : goal.returns
returns c =
    let made = zeros_are (pos 0) 4 (spare c.new-v.result) c.new-v.ensures.spare in
    let two : items c.push-2.new.self ≡ pos 1 ∷ pos 2 ∷ [] = search rules in
    let one : items c.push.new.self ≡ pos 1 ∷ [] = search rules in
    let first = used_by NothingVacated (items c.new-v.result) (items c.push.new.self) _ _ 1 (rw (one, c.new-v.ensures.items) refl) c.push.ensures.slot_rule in
    let second = used_by NothingVacated (items c.push.new.self) (items c.push-2.new.self) _ _ 1 (rw (two, one) refl) c.push-2.ensures.slot_rule in
    let behind : spare c.push-2.new.self ≡ pos 0 ∷ pos 0 ∷ [] = second ∙ ap (drop 1) first ∙ rw made refl in
    let last : items c.pop-two.new.self ≡ pos 1 ∷ [] = search rules in
    let fewer : items_len c.push-2.new.self ≡ items_len c.pop-two.new.self + 1 = rw (two, last) refl in
    let left = freed _ (pos 0) (λ x h. h) 1 (array_view c.push-2.new.self) (array_view c.pop-two.new.self) (freed_by (λ x. x ≡ pos 0) _ _ _ _ 1 fewer (c.pop-two.ensures.becomes.slot_rule)) in
    c.into_inner.ensures.slots ∙ slots_are (array_view c.pop-two.new.self) ∙ rw (left, last, behind) refl
