-- Which items stand at the front of an input.
use Rattle.std.proofs.Common.{◌≡◌, ◌∙◌, ap, sym, ℕ, ◌<◌, inl, inr, List, [], ◌∷◌, ◌++◌, length, refl, arith, append-nil, length-append}
use Rattle.std.specs.List.{AllByRecursion}
use Rattle.std.proofs.lemmas.Bool.{cases_lt}
use Rattle.tinyvec_borsh.specs.Code.{IsCode}
use Rattle.tinyvec_borsh.specs.Items.{SpellsItems}
use Rattle.tinyvec_borsh.specs.ItemsLaws.{next-item, same-item, same-items}
use Rattle.tinyvec_borsh.specs.TwoParts.{with-tail}

module _ {C : Type 0} (Spells : C → List ℕ → Type 0) (code : IsCode Spells) where
  -- fewer items at the front of the same input are the first ones
  fewer-first : (cs ds : List C) (a b x y : List ℕ) → length cs < length ds → SpellsItems Spells cs a → SpellsItems Spells ds b → a ++ x ≡ b ++ y → (more : List C) × (ds ≡ cs ++ more)
  fewer-first [] ds a b x y fewer p q e = (ds, refl)
  fewer-first (c ∷ cs) [] a b x y fewer p q e = absurd (omega (arith, fewer))
  fewer-first (c ∷ cs) (d ∷ ds) a b x y fewer p q e =
      let item = same-item Spells code c d p.first q.first (p.rest ++ x) (q.rest ++ y) p.is_first q.is_first (sym (with-tail p x) ∙ e ∙ with-tail q y) in
      let more = fewer-first cs ds p.rest q.rest x y (omega (arith, fewer)) p.is_rest q.is_rest item.2 in
      (more.0, λ i. sym item.0 i ∷ more.1 i)

  module _ (Fits : C → Type 0) where
    -- No item that fits stands at the front.
    abbrev pub BeginsNone : List ℕ → Type 0
    BeginsNone input = (c : C) (bytes rest : List ℕ) → Fits c → Spells c bytes → input ≡ bytes ++ rest → ⊥

    -- where no item stands behind these, any that stand at the front of the same input are the first ones
    pub first-items : (cs ds : List C) (a b x y : List ℕ) → BeginsNone x → AllByRecursion Fits ds → SpellsItems Spells cs a → SpellsItems Spells ds b → a ++ x ≡ b ++ y → (more : List C) × (cs ≡ ds ++ more)
    first-items cs ds a b x y none fit p q e = elim (cases_lt (length cs) (length ds)) [
      | inl further ↦
          let next = next-item Spells code Fits cs ds a b x y further p q e in
          absurd (none next.0 next.1.first next.1.rest (next.2 fit) next.1.is_first next.1.whole)
      | inr no_further ↦ elim (cases_lt (length ds) (length cs)) [
        | inl fewer ↦ fewer-first ds cs b a y x fewer q p (sym e)
        | inr no_fewer ↦
            let t = same-items Spells code cs ds a b x y (omega (arith, no_further, no_fewer)) p q e in
            ([], t.0 ∙ sym (append-nil ds))
      ]
    ]

    -- and where none stands behind those either, they are all
    pub all-items : (cs ds : List C) (a b x y : List ℕ) → BeginsNone x → BeginsNone y → AllByRecursion Fits cs → AllByRecursion Fits ds → SpellsItems Spells cs a → SpellsItems Spells ds b → a ++ x ≡ b ++ y
        → (cs ≡ ds) × (x ≡ y)
    all-items cs ds a b x y none none_either fit fit_ds p q e =
        let f = first-items cs ds a b x y none fit_ds p q e in
        let g = first-items ds cs b a y x none_either fit q p (sym e) in
        same-items Spells code cs ds a b x y (omega (arith, ap length f.1, length-append ds f.0, ap length g.1, length-append cs g.0)) p q e
