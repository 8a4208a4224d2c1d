-- Where the fronts of encodings are cut, so are those of what is made of them.
use Rattle.std.proofs.Common.{◌≡◌, ◌∙◌, ap, sym, subst, ℕ, ◌+◌, ◌<◌, ◌≤◌, ◌⊎◌, inl, inr, List, [], ◌∷◌, ◌++◌, length, refl, arith, append-nil, le_refl, length-append}
use Rattle.std.specs.List.{AllByRecursion}
use Rattle.tinyvec_borsh.specs.Both.{BothFit, InEither, SpellsBoth}
use Rattle.tinyvec_borsh.specs.Fronts.{FrontsAreCut}
use Rattle.tinyvec_borsh.specs.Items.{InItem, IsCount, ListFits, SpellsItems, SpellsList}
use Rattle.tinyvec_borsh.specs.declared.borsh_error.BorshError.{BorshError}
use Rattle.tinyvec_borsh.specs.declared.borsh_error.BorshError.TheVariants.{Ended}
use Rattle.tinyvec_borsh.specs.TwoParts.{HasParts, group-first, joined}

-- a list of two parts is cut in its first part, or in its second
pub cut-place : (x y a b : List ℕ) → x ++ y ≡ a ++ b → ((r : List ℕ) × (x ≡ a ++ r) × (0 < length r)) ⊎ ((r : List ℕ) × (a ≡ x ++ r) × (y ≡ r ++ b))
cut-place [] y a b e = inr (a, refl, e)
cut-place (u ∷ x) y [] b e = inl (u ∷ x, refl, omega arith)
cut-place (u ∷ x) y (v ∷ a) b e =
    let head : u ≡ v = cc in
    let rest : x ++ y ≡ a ++ b = cc in
    elim (cut-place x y a b rest) [
      | inl p ↦ inl (p.0, (λ i. head i ∷ p.1 i), p.2)
      | inr p ↦ inr (p.0, (λ i. sym head i ∷ p.1 i), p.2)
    ]

-- the first, or the second behind it
pub both-fronts : {A B : Type 0} (SpellsA : A → List ℕ → Type 0) (SpellsB : B → List ℕ → Type 0) (FitsA : A → Type 0) (FitsB : B → Type 0) (ReasonA ReasonB : BorshError → List ℕ → Type 0)
    → FrontsAreCut SpellsA FitsA (ReasonA Ended) → FrontsAreCut SpellsB FitsB (ReasonB Ended) → FrontsAreCut (SpellsBoth SpellsA SpellsB) (BothFit FitsA FitsB) (InEither SpellsA FitsA ReasonA ReasonB Ended)
both-fronts SpellsA SpellsB FitsA FitsB ReasonA ReasonB fronts_a fronts_b c front back some fits p = elim (cut-place p.first p.rest front back (sym p.whole)) [
  | inl f ↦ inl (fronts_a c.0 front f.0 f.2 fits.0 (subst (SpellsA c.0) f.1 p.is_first))
  | inr s ↦ inr (record {
    content = c.0;
    valid = fits.0;
    parts = record { first = p.first; rest = s.0; is_first = p.is_first; is_rest = fronts_b c.1 s.0 back some fits.1 (subst (SpellsB c.1) s.2 p.is_rest); whole = s.1 };
  })
]

module _ {C : Type 0} (Spells : C → List ℕ → Type 0) (Fits : C → Type 0) (P : List ℕ → Type 0) where
  -- The first of the items stand at the front, and it is so behind them.
  pub record HasFirst (cs : List C) (front : List ℕ) : Type 0 where
    pub first : List C
    pub more : List C
    pub all : cs ≡ first ++ more
    pub fit : AllByRecursion Fits first
    pub parts : HasParts (SpellsItems Spells first) P front

  -- They are not all of the items.
  abbrev pub HasSome : List C → List ℕ → Type 0
  HasSome cs front = (t : HasFirst cs front) × (0 < length t.more)

  one-before : (c : C) (cs : List C) (a r front : List ℕ) → Fits c → Spells c a → front ≡ a ++ r → HasSome cs r → HasSome (c ∷ cs) front
  one-before c cs a r front fits p is s =
      let t = s.0 in (
        record {
          first = c ∷ t.first;
          more = t.more;
          all = ap (λ l. c ∷ l) t.all;
          fit = (fits, t.fit);
          parts = group-first (record { first = a; rest = r; is_first = p; is_rest = t.parts; whole = is });
        },
        s.1,
      )

  module _ (fronts : FrontsAreCut Spells Fits P) where
    -- where some byte of the last item is missing, one is cut
    pub cut-items : (cs : List C) (front back : List ℕ) → 0 < length back → AllByRecursion Fits cs → SpellsItems Spells cs (front ++ back) → HasSome cs front
    cut-items [] front back some fit p = absurd (omega (arith, some, ap length p, length-append front back))
    cut-items (c ∷ cs) front back some fit p = elim (cut-place p.first p.rest front back (sym p.whole)) [
      | inl f ↦ (
        record {
          first = [];
          more = c ∷ cs;
          all = refl;
          fit = tt;
          parts = joined [] front refl (fronts c front f.0 f.2 fit.0 (subst (Spells c) f.1 p.is_first));
        },
        omega arith,
      )
      | inr s ↦ one-before c cs p.first s.0 front fit.0 p.is_first s.1 (cut-items cs s.0 back some fit.1 (subst (SpellsItems Spells cs) s.2 p.is_rest))
    ]

    -- a front of the items' encoding, the whole of it too
    pub items-fronts : P [] → (cs : List C) (front back : List ℕ) → AllByRecursion Fits cs → SpellsItems Spells cs (front ++ back) → HasFirst cs front
    items-fronts none cs front [] fit p = record {
      first = cs;
      more = [];
      all = sym (append-nil cs);
      fit = fit;
      parts = record { first = front; rest = []; is_first = subst (SpellsItems Spells cs) (append-nil front) p; is_rest = none; whole = sym (append-nil front) };
    }
    items-fronts none cs front (byte ∷ back) fit p = (cut-items cs front (byte ∷ back) (omega arith) fit p).0

    -- the count, or an item behind it
    pub counted-fronts : (room n : ℕ) (cs : List C) → length cs ≤ n → length cs ≤ room + 1 → AllByRecursion Fits cs
        → (front back : List ℕ) → 0 < length back → HasParts (IsCount n) (SpellsItems Spells cs) (front ++ back) → (length front < 8) ⊎ InItem Spells Fits P room front
    counted-fronts room n cs all few fit front back some p = elim (cut-place p.first p.rest front back (sym p.whole)) [
      | inl f ↦ inl (omega (arith, f.2, p.is_first.many, ap length f.1, length-append front f.0))
      | inr s ↦
          let t = cut-items cs s.0 back some fit (subst (SpellsItems Spells cs) s.2 p.is_rest) in
          let items = t.0.parts in
          let fewer : length t.0.first < length cs = omega (arith, t.1, ap length t.0.all, length-append t.0.first t.0.more) in
          inr (record {
            has = record { len = n; items = t.0.first; count = p.first; bytes = items.first; tail = items.rest; counted = p.is_first; spelled = items.is_first; fit = t.0.fit; whole = s.1 ∙ ap (λ l. p.first ++ l) items.whole };
            fewer = omega (arith, fewer, all);
            few = omega (arith, fewer, few);
            left = items.is_rest;
          })
    ]

    pub list-fronts : (room : ℕ) → FrontsAreCut (SpellsList Spells) (ListFits Spells Fits room) (λ input. (length input < 8) ⊎ InItem Spells Fits P room input)
    list-fronts room cs front back some fits p = counted-fronts room (length cs) cs (le_refl _) (omega (arith, fits.few)) fits.items front back some p
