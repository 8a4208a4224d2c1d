-- If two encodings are codes, so is the one after the other, and no input is two of fitting and refused for a reason.
use Rattle.std.proofs.Common.{◌≡◌, ◌∙◌, sym, subst, ℕ, inl, inr, List, ◌++◌, arith}
use Rattle.tinyvec_borsh.specs.Code.{IsCode}
use Rattle.tinyvec_borsh.specs.Apart.{AreApart}
use Rattle.tinyvec_borsh.specs.ItemsLaws.{same-item}
use Rattle.tinyvec_borsh.specs.FrontsLaws.{both-fronts}
use Rattle.tinyvec_borsh.specs.Both.{SpellsBoth, BothFit, IsBehind, InEither}
use Rattle.tinyvec_borsh.specs.declared.borsh_error.BorshError.{BorshError}
use Rattle.tinyvec_borsh.specs.declared.borsh_error.BorshError.TheVariants.{Ended}
use Rattle.tinyvec_borsh.specs.TwoParts.{joined, parts-length, with-tail}

module _ {A B : Type 0} (SpellsA : A → List ℕ → Type 0) (SpellsB : B → List ℕ → Type 0) (code_a : IsCode SpellsA) where
  -- the second follows the first
  second-stands : (P : List ℕ → Type 0) (FitsA : A → Type 0) (c : A × B) (bytes rest : List ℕ) (p : SpellsBoth SpellsA SpellsB c bytes) → IsBehind SpellsA FitsA P (bytes ++ rest) → P (p.rest ++ rest)
  second-stands P FitsA c bytes rest p s =
      let t = same-item SpellsA code_a c.0 s.content p.first s.first (p.rest ++ rest) s.rest p.is_first s.is_first (sym (with-tail p rest) ∙ s.whole) in
      subst P (sym t.2) s.is_rest

module _ {A B : Type 0} {SpellsA : A → List ℕ → Type 0} {SpellsB : B → List ℕ → Type 0} (code_a : IsCode SpellsA) where
  pub both_code : IsCode SpellsB → IsCode (SpellsBoth SpellsA SpellsB)
  both_code code_b = record {
    one_spelling = λ c a b p q. p.whole ∙ (λ i. code_a.one_spelling c.0 p.first q.first p.is_first q.is_first i ++ code_b.one_spelling c.1 p.rest q.rest p.is_rest q.is_rest i) ∙ sym q.whole;
    some_byte = λ c a p. omega (arith, code_a.some_byte c.0 p.first p.is_first, parts-length p);
    one_content = λ c d a rest p q.
        let t = same-item SpellsA code_a c.0 d.0 p.first q.first (p.rest ++ rest) q.rest p.is_first q.is_first (sym (with-tail p rest) ∙ q.whole) in
        let u : c.1 ≡ d.1 = code_b.one_content c.1 d.1 p.rest rest p.is_rest (subst (SpellsB d.1) (sym t.2) q.is_rest) in
        λ i. (t.0 i, u i);
  }

  module _ {FitsA : A → Type 0} {FitsB : B → Type 0} {ReasonA ReasonB : BorshError → List ℕ → Type 0} where
    pub both_apart : AreApart SpellsA FitsA ReasonA → AreApart SpellsB FitsB ReasonB → AreApart (SpellsBoth SpellsA SpellsB) (BothFit FitsA FitsB) (InEither SpellsA FitsA ReasonA ReasonB)
    both_apart apart_a apart_b = record {
      spelled_or_cut = λ c bytes rest p cut. elim cut [
        | inl f ↦ apart_a.spelled_or_cut c.0 p.first (p.rest ++ rest) p.is_first (subst (ReasonA Ended) (with-tail p rest) f)
        | inr s ↦ apart_b.spelled_or_cut c.1 p.rest rest p.is_rest (second-stands SpellsA SpellsB code_a (ReasonB Ended) FitsA c bytes rest p s)
      ];
      fits_or_refused = λ e of c bytes rest fits p refused. elim refused [
        | inl f ↦ apart_a.fits_or_refused e of c.0 p.first (p.rest ++ rest) fits.0 p.is_first (subst (ReasonA e) (with-tail p rest) f)
        | inr s ↦ apart_b.fits_or_refused e of c.1 p.rest rest fits.1 p.is_rest (second-stands SpellsA SpellsB code_a (ReasonB e) FitsA c bytes rest p s)
      ];
      one_reason = λ e f of_e of_f input r s. elim r [
        | inl r ↦ elim s [
          | inl s ↦ apart_a.one_reason e f of_e of_f input r s
          | inr s ↦ absurd (apart_a.fits_or_refused e of_e s.content s.first s.rest s.valid s.is_first (subst (ReasonA e) s.whole r))
        ]
        | inr r ↦ elim s [
          | inl s ↦ absurd (apart_a.fits_or_refused f of_f r.content r.first r.rest r.valid r.is_first (subst (ReasonA f) r.whole s))
          | inr s ↦
              let same = same-item SpellsA code_a r.content s.content r.first s.first r.rest s.rest r.is_first s.is_first (sym r.whole ∙ s.whole) in
              apart_b.one_reason e f of_e of_f s.rest (subst (ReasonB e) same.2 r.is_rest) s.is_rest
        ]
      ];
      front_is_cut = both-fronts SpellsA SpellsB FitsA FitsB ReasonA ReasonB apart_a.front_is_cut apart_b.front_is_cut;
      none_is_cut = inl apart_a.none_is_cut;
    }

module _ {A B : Type 0} {SpellsA : A → List ℕ → Type 0} {SpellsB : B → List ℕ → Type 0} {FitsA : A → Type 0} {FitsB : B → Type 0} where
  pub both_spelled : ((c : A) → FitsA c → (bytes : List ℕ) × SpellsA c bytes) → ((c : B) → FitsB c → (bytes : List ℕ) × SpellsB c bytes)
      → (c : A × B) → BothFit FitsA FitsB c → (bytes : List ℕ) × SpellsBoth SpellsA SpellsB c bytes
  both_spelled spelled_a spelled_b c fits =
      let a = spelled_a c.0 fits.0 in
      let b = spelled_b c.1 fits.1 in
      (a.0 ++ b.0, joined a.0 b.0 a.1 b.1)
