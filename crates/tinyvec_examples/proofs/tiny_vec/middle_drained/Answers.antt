use Rattle.std.proofs.Common.{◌≡◌, ◌∷◌, [], pos, refl, ◌∙◌, rules}
use Rattle.tinyvec.specs.TinyVec.{tiny_items, tiny_spare, tiny_view}
use Rattle.tinyvec.proofs.TinyLemmas.{tiny_slots_only}
use Rattle.tinyvec_examples.proofs.tiny_vec.middle_drained.Goals as goal

pub returns-clause-spare : goal.returns-clause-spare
returns-clause-spare c =
    let made = c.from_array_len-v.ensures in
    let new = c.drop-d.new.self.0 in
    let kept = c.next-two.ensures.steps.1 in
    let left = c.drain-d.ensures.begins.leaves new (kept.leaves new c.drop-d.ensures) in
    let items : tiny_items new ≡ pos 1 ∷ pos 4 ∷ [] = left.items ∙ rw made.items refl in
    let spare = tiny_slots_only (λ x. x ≡ pos 0) (pos 0) (λ x h. h) (tiny_view c.from_array_len-v.result) (tiny_view new) (search rules) (search rules) left.slot_rule in
    let is : tiny_spare new ≡ pos 0 ∷ pos 0 ∷ [] = spare ∙ rw (items, made.items, made.spare) refl in
    let same = kept.same_reference in
    search rules
