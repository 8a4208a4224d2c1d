-- A tag and what stands behind it, written and read.
use Rattle.std.proofs.Common.{◌≡◌, ◌∙◌, ap, sym, subst, ℕ, ◌⊎◌, inl, inr, List, [], ◌∷◌, ◌++◌, length, Option, Result, Ok, Err, OnOk, refl, arith}
use Rattle.std.proofs.KnownBytes.{Appends-trans, Consumes-trans}
use Rattle.tinyvec_borsh.specs.Code.{IsCode}
use Rattle.tinyvec_borsh.specs.Fronts.{FrontsAreCut}
use Rattle.tinyvec_borsh.specs.Number.{SpellsNumber}
use Rattle.tinyvec_borsh.specs.Reading.{MayBe, ReadsSpelling}
use Rattle.tinyvec_borsh.specs.Tagged.{IsTagged, SpellsTagged}
use Rattle.tinyvec_borsh.specs.Writing.{WritesSpelling}
use Rattle.tinyvec_borsh.proofs.ItemByItem.{maybe-behind}

-- a byte is its own spelling
pub one-byte : (n : ℕ) (bytes : List ℕ) → SpellsNumber 1 n bytes → bytes ≡ n ∷ []
one-byte n [] p = absurd (omega (arith, p.many))
one-byte n (b ∷ []) p = let same : b ≡ n = omega (arith, p.value) in λ i. same i ∷ []
one-byte n (b ∷ d ∷ bytes) p = absurd (omega (arith, p.many))

pub same-tagged : (n m : ℕ) (x y : List ℕ) → n ∷ x ≡ m ∷ y → (n ≡ m) × (x ≡ y)
same-tagged n m x y e = (cc, cc)

module _ {C : Type 0} (tag : ℕ) (Spells : C → List ℕ → Type 0) where
  pub tagged-code : IsCode Spells → IsCode (SpellsTagged tag Spells)
  tagged-code code = record {
    one_spelling = λ c a b p q. p.2 ∙ ap (λ l. tag ∷ l) (code.one_spelling c p.0 q.0 p.1 q.1) ∙ sym q.2;
    some_byte = λ c a p. omega (arith, ap length p.2);
    one_content = λ c d a rest p q.
        let t = same-tagged tag tag (p.0 ++ rest) q.0 (ap (λ l. l ++ rest) (sym p.2) ∙ q.2) in
        code.one_content c d p.0 rest p.1 (subst (Spells d) (sym t.1) q.1);
  }

  -- no byte, or it is cut behind the tag
  pub tagged-fronts : (Fits : C → Type 0) (IsCut : List ℕ → Type 0) → FrontsAreCut Spells Fits IsCut → FrontsAreCut (SpellsTagged tag Spells) Fits (λ input. (input ≡ []) ⊎ IsTagged tag IsCut input)
  tagged-fronts Fits IsCut fronts c [] back some fits p = inl refl
  tagged-fronts Fits IsCut fronts c (byte ∷ front) back some fits p =
      let t = same-tagged byte tag (front ++ back) p.0 p.2 in
      inr (front, (λ i. t.0 i ∷ front), fronts c front back some fits (subst (Spells c) (sym t.1) p.1))

  pub adds-tagged : {T E : Type 0} (r : Result T E) (c : C) (old mid new : Option (List ℕ)) → WritesSpelling (SpellsNumber 1 tag) old mid → OnOk r (WritesSpelling (Spells c) mid new) → OnOk r (WritesSpelling (SpellsTagged tag Spells c) old new)
  adds-tagged (Ok x) c old mid new p q = (p.0 ++ q.0, (q.0, q.1, ap (λ l. l ++ q.0) (one-byte tag p.0 p.1)), Appends-trans old mid new p.0 q.0 p.2 q.2)
  adds-tagged (Err e) c old mid new p q = tt

module _ (n : ℕ) (old mid : Option (List ℕ)) (byte : ReadsSpelling (SpellsNumber 1 n) old mid) where
  -- what was read behind a byte
  pub behind-byte : (P Q : List ℕ → Type 0) → ((input tail : List ℕ) → input ≡ n ∷ tail → P tail → Q input) → MayBe mid P → MayBe old Q
  behind-byte P Q then may = maybe-behind old mid P Q byte (λ input p. then input p.rest (p.whole ∙ ap (λ l. l ++ p.rest) (one-byte n p.first p.is_first)) p.is_rest) may

  module _ (tag : ℕ) (is : n ≡ tag) where
    pub takes-tagged : {C : Type 0} (Spells : C → List ℕ → Type 0) (c : C) (new : Option (List ℕ)) → ReadsSpelling (Spells c) mid new → ReadsSpelling (SpellsTagged tag Spells c) old new
    takes-tagged Spells c new q = (byte.0 ++ q.0, (q.0, q.1, ap (λ l. l ++ q.0) (one-byte n byte.0 byte.1) ∙ ap (λ m. m ∷ q.0) is), Consumes-trans old mid new byte.0 q.0 byte.2 q.2)

    pub behind-tag : (P : List ℕ → Type 0) → MayBe mid P → MayBe old (IsTagged tag P)
    behind-tag P may = behind-byte P (IsTagged tag P) (λ input tail whole so. (tail, whole ∙ ap (λ m. m ∷ tail) is, so)) may
