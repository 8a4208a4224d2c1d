use Rattle.std.proofs.Common.{◌≡◌, [], ◌++◌, refl, length, ap, ◌∙◌, arith, rules}
use Rattle.tinyvec_slots.specs.Slots.{items_in, spare_in}
use Rattle.tinyvec_array.specs.ArrayVec.{slots_of, name_of}
use Rattle.tinyvec_array.specs.View.{view}
use Rattle.tinyvec_array.specs.ViewLaws.{one_place, becomes, freed_by}
use Rattle.tinyvec_array.proofs.RuleLemmas.{rule_freed}
use Rattle.tinyvec_array.proofs.ViewLemmas.{slots-parts}
use Rattle.tinyvec.proofs.FrameLemmas.{inline_becomes}
use Rattle.tinyvec.proofs.tiny_vec.edits.TinyVec+A.clear.Goals as goal

pub returns-in-Inline-self : goal.returns-in-Inline-self
returns-in-Inline-self g c =
    let G = g.A.Slots in
    let D = g.A.Item.Default.is_default in
    let v = c.in-Inline.v in
    let w = c.clear.new.self in
    let new = c.set_len.new.self in
    let gone = c.clear.ensures in
    let same : slots_of G c.in-Inline-self.v ≡ slots_of G w = search rules in
    let named : name_of G c.in-Inline-self.v ≡ name_of G w = search rules in
    let empty : (view G new).items ≡ [] = ap (λ u. items_in u) c.set_len.ensures.value in
    let freed = freed_by D (view G v).items (view G w).items _ _ (length (view G v).items) (omega (arith, ap length gone.items)) (gone.slot_rule) in
    let behind : (view G new).spare ≡ freed.0 ++ (view G v).spare =
    ap (λ u. spare_in u) c.set_len.ensures.value ∙ same ∙ slots-parts G w ∙ ap (λ l. l ++ (view G w).spare) gone.items ∙ freed.2 in
    let place = one_place refl (c.set_len.ensures.lender.slot_count ∙ ap length same) (c.set_len.ensures.lender.same_reference ∙ named) ∙ gone.place in
    rw c.in-Inline.is (inline_becomes G D _ _ _ _ _ (becomes G D v new place (rule_freed D (view G v).items (view G new).items _ _ (length (view G v).items) (omega (arith, ap length empty)) (freed.0, freed.1, behind)) [] empty))
