use Rattle.std.proofs.Common.{◌≡◌, ◌∷◌, [], None, pos, get_or, slice_range, refl, ap, ◌∙◌, rules}
use Rattle.tinyvec_slots.specs.Ends.{back, answered_by}
use Rattle.tinyvec_slots.specs.Slots.{items_in}
use Rattle.tinyvec_slots.proofs.EndsLemmas.{TakesFromEnds-computes}
use Rattle.tinyvec_array.specs.ArrayVec.{all_slots}
use Rattle.tinyvec_examples.proofs.DrainEnded.{middle_left}
use Rattle.tinyvec_examples.proofs.draining.after_next_back.Goals as goal

pub returns-clause-item : goal.returns-clause-item
returns-clause-item c =
    let begins = c.drain-d.ensures.begins in
    let took = begins.both_ends (back ∷ []) (c.next_back-x.result ∷ []) c.next_back-x.new.self (c.next_back-x.new.self, c.next_back-x.ensures.steps, refl) in
    let two = begins.rest ∙ ap (λ s. slice_range (items_in s) 1 3) c.from_array_len-v.ensures.value in
    ap (λ l. get_or l 0 None) ((TakesFromEnds-computes _ _ _ _ took.0).0 ∙ ap (answered_by (back ∷ [])) two)

pub returns-clause-left : goal.returns-clause-left
returns-clause-left c =
    let new = c.drop.new.self.0 in
    let kept = c.next_back-x.ensures.steps.1 in
    let left : all_slots new ≡ pos 1 ∷ pos 4 ∷ pos 0 ∷ pos 0 ∷ [] =
    middle_left c.from_array_len-v.result new c.from_array_len-v.ensures.value (c.drain-d.ensures.begins.leaves new (kept.leaves new c.drop.ensures)) in
    let same = kept.same_reference in
    search rules
