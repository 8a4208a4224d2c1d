use Rattle.std.proofs.Common.{rules, ◌≡◌, All, IsUtf8, sym, subst}
use Rattle.tinyvec.specs.TinyVec.{tiny_items, tiny_spare}
use Rattle.tinyvec_text.proofs.inline_text.traits.InlineTextClone.clone.Goals as goal

pub invariant_of-result : goal.invariant_of-result
invariant_of-result g c =
    let same : tiny_items c.in_ok-list.list ≡ tiny_items c.self.inside.list = search rules in
    let spare : tiny_spare c.in_ok-list.list ≡ tiny_spare c.self.inside.list = search rules in
    (subst (λ bs. ∥ IsUtf8 bs ∥₁) (sym same) c.self.invariant.0, subst (All (λ b. b ≡ 0)) (sym spare) c.self.invariant.1)
