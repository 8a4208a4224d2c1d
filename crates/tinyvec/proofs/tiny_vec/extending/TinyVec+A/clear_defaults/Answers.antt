use Rattle.std.proofs.Common.{◌≡◌, [], ◌++◌, refl, length, ap, ◌∙◌, arith}
use Rattle.tinyvec_slots.specs.Slots.{items_in, spare_in}
use Rattle.tinyvec_array.specs.View.{view}
use Rattle.tinyvec_array.specs.ViewLaws.{one_place, becomes}
use Rattle.tinyvec_array.proofs.RuleLemmas.{rule_freed}
use Rattle.tinyvec_array.proofs.ViewLemmas.{slots-parts}
use Rattle.tinyvec.proofs.FrameLemmas.{inline_becomes}
use Rattle.tinyvec.proofs.tiny_vec.extending.TinyVec+A.clear_defaults.Goals as goal

pub returns-in-Inline : goal.returns-in-Inline
returns-in-Inline g c =
    let G = g.A.Slots in
    let D = g.A.Item.Default.is_default in
    let v = c.in-Inline.v in
    let new = c.set_len.new.self in
    let all = rw c.in-Inline.is at c.requires in
    let empty : (view G new).items ≡ [] = ap (λ u. items_in u) c.set_len.ensures.value in
    let behind : (view G new).spare ≡ (view G v).items ++ (view G v).spare = ap (λ u. spare_in u) c.set_len.ensures.value ∙ slots-parts G v in
    let place = one_place refl c.set_len.ensures.lender.slot_count c.set_len.ensures.lender.same_reference in
    rw c.in-Inline.is (inline_becomes G D _ _ _ _ _ (becomes G D v new place (rule_freed D (view G v).items (view G new).items _ _ (length (view G v).items) (omega (arith, ap length empty)) ((view G v).items, (refl, all), behind)) [] empty))
