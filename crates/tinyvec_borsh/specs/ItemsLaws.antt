-- If the items' encoding is a code, so is that of lists, and no input is two of fitting and refused for a reason.
use Rattle.std.proofs.Common.{◌≡◌, ◌∙◌, ap, sym, subst, ℕ, ◌<◌, ◌⊎◌, inl, inr, List, [], ◌∷◌, ◌++◌, length, refl, arith, append-nil, length-append, lit<}
use Rattle.std.specs.List.{AllByRecursion}
use Rattle.std.proofs.lemmas.Bool.{cases_lt}
use Rattle.std.proofs.lemmas.List.{nil_from_length}
use Rattle.tinyvec_borsh.specs.Code.{IsCode}
use Rattle.tinyvec_borsh.specs.Apart.{AreApart, IsOfInput}
use Rattle.tinyvec_borsh.specs.declared.borsh_error.BorshError.{BorshError}
use Rattle.tinyvec_borsh.specs.declared.borsh_error.BorshError.TheVariants.{Ended, InvalidLength, InvalidUtf8, Io, Memory}
use Rattle.tinyvec_borsh.specs.Number.{SpellsNumber}
use Rattle.tinyvec_borsh.specs.FrontsLaws.{list-fronts}
use Rattle.tinyvec_borsh.specs.NumberLaws.{number_code, number_spelled}
use Rattle.tinyvec_borsh.specs.Items.{HasItems, IsCount, SpellsItems, SpellsList, InItem, ListFits, ListReason, OfList}
use Rattle.tinyvec_borsh.specs.TwoParts.{HasParts, joined, parts-length, with-tail}

-- of two fronts of one list, one begins the other
one-begins : (a b x y : List ℕ) → a ++ x ≡ b ++ y → ((r : List ℕ) × (b ≡ a ++ r) × (x ≡ r ++ y)) ⊎ ((r : List ℕ) × (a ≡ b ++ r) × (y ≡ r ++ x))
one-begins [] b x y e = inl (b, refl, e)
one-begins (u ∷ a) [] x y e = inr (u ∷ a, refl, sym e)
one-begins (u ∷ a) (v ∷ b) x y e =
    let head : u ≡ v = cc in
    let tail : a ++ x ≡ b ++ y = cc in
    elim (one-begins a b x y tail) [
      | inl p ↦ inl (p.0, (λ i. sym head i ∷ p.1 i), p.2)
      | inr p ↦ inr (p.0, (λ i. head i ∷ p.1 i), p.2)
    ]

no-more : (a r : List ℕ) → a ≡ a ++ r → r ≡ []
no-more a r e = nil_from_length r (omega (arith, ap length e, length-append a r))

module _ {C : Type 0} (Spells : C → List ℕ → Type 0) (code : IsCode Spells) where
  begun : (c d : C) (a b r x y : List ℕ) → Spells c a → Spells d b → b ≡ a ++ r → x ≡ r ++ y → (c ≡ d) × (a ≡ b) × (x ≡ y)
  begun c d a b r x y p q e f =
      let one : c ≡ d = code.one_content c d a r p (subst (Spells d) e q) in
      let same : a ≡ b = code.one_spelling d a b (subst (λ z. Spells z a) one p) q in
      let none : r ≡ [] = no-more a r (same ∙ e) in
      (one, same, f ∙ ap (λ l. l ++ y) none)

  -- an input begins with one content
  pub same-item : (c d : C) (a b x y : List ℕ) → Spells c a → Spells d b → a ++ x ≡ b ++ y → (c ≡ d) × (a ≡ b) × (x ≡ y)
  same-item c d a b x y p q e = elim (one-begins a b x y e) [
    | inl f ↦ begun c d a b f.0 x y p q f.1 f.2
    | inr f ↦ let t = begun d c b a f.0 y x q p f.1 f.2 in (sym t.0, sym t.1, sym t.2)
  ]

-- the count and what follows it
same-count : (n m : ℕ) (count other x y : List ℕ) → IsCount n count → IsCount m other → count ++ x ≡ other ++ y → (n ≡ m) × (count ≡ other) × (x ≡ y)
same-count = same-item (SpellsNumber 8) (number_code 8 (lit< tt))

module _ {C : Type 0} (Spells : C → List ℕ → Type 0) (code : IsCode Spells) where
  pub one-items : (cs : List C) (a b : List ℕ) → SpellsItems Spells cs a → SpellsItems Spells cs b → a ≡ b
  one-items [] a b p q = p ∙ sym q
  one-items (c ∷ cs) a b p q = p.whole ∙ (λ i. code.one_spelling c p.first q.first p.is_first q.is_first i ++ one-items cs p.rest q.rest p.is_rest q.is_rest i) ∙ sym q.whole

  -- as many items at the front are the same
  pub same-items : (cs ds : List C) (a b x y : List ℕ) → length cs ≡ length ds → SpellsItems Spells cs a → SpellsItems Spells ds b → a ++ x ≡ b ++ y → (cs ≡ ds) × (x ≡ y)
  same-items [] [] a b x y n p q e = (refl, ap (λ l. l ++ x) (sym p) ∙ e ∙ ap (λ l. l ++ y) q)
  same-items [] (d ∷ ds) a b x y n p q e = absurd (omega arith)
  same-items (c ∷ cs) [] a b x y n p q e = absurd (omega arith)
  same-items (c ∷ cs) (d ∷ ds) a b x y n p q e =
      let item = same-item Spells code c d p.first q.first (p.rest ++ x) (q.rest ++ y) p.is_first q.is_first (sym (with-tail p x) ∙ e ∙ with-tail q y) in
      let more = same-items cs ds p.rest q.rest x y (omega arith) p.is_rest q.is_rest item.2 in
      ((λ i. item.0 i ∷ more.0 i), more.1)

  -- if more items are known, one follows the first ones
  pub next-item : (Fits : C → Type 0) (cs ds : List C) (a b x y : List ℕ) → length cs < length ds → SpellsItems Spells cs a → SpellsItems Spells ds b → a ++ x ≡ b ++ y
      → (d : C) × HasParts (Spells d) (λ _. Unit {0}) x × (AllByRecursion Fits ds → Fits d)
  next-item Fits [] [] a b x y n p q e = absurd (omega arith)
  next-item Fits (c ∷ cs) [] a b x y n p q e = absurd (omega arith)
  next-item Fits [] (d ∷ ds) a b x y n p q e =
      (d, record { first = q.first; rest = q.rest ++ y; is_first = q.is_first; is_rest = tt; whole = ap (λ l. l ++ x) (sym p) ∙ e ∙ with-tail q y }, λ h. h.0)
  next-item Fits (c ∷ cs) (d ∷ ds) a b x y n p q e =
      let item = same-item Spells code c d p.first q.first (p.rest ++ x) (q.rest ++ y) p.is_first q.is_first (sym (with-tail p x) ∙ e ∙ with-tail q y) in
      let more = next-item Fits cs ds p.rest q.rest x y (omega arith) p.is_rest q.is_rest item.2 in
      (more.0, more.1, λ h. more.2 h.1)

  -- an encoded list's count is that of its items, and they follow it
  list-begins : (cs : List C) (bytes rest : List ℕ) (n : ℕ) (count x : List ℕ) (p : SpellsList Spells cs bytes) → IsCount n count → bytes ++ rest ≡ count ++ x → (length cs ≡ n) × (p.rest ++ rest ≡ x)
  list-begins cs bytes rest n count x p q e =
      let t = same-count (length cs) n p.first count (p.rest ++ rest) x p.is_first q (sym (with-tail p rest) ∙ e) in
      (t.0, t.2)

  pub list_code : IsCode (SpellsList Spells)
  list_code = record {
    one_spelling = λ cs a b p q.
        let same = (number_code 8 (lit< tt)).one_spelling (length cs) p.first q.first p.is_first q.is_first in
        let more = one-items cs p.rest q.rest p.is_rest q.is_rest in
        p.whole ∙ (λ i. same i ++ more i) ∙ sym q.whole;
    some_byte = λ cs a p. omega (arith, p.is_first.many, parts-length p);
    one_content = λ cs ds a rest p q.
        let t = list-begins cs a rest (length ds) q.first q.rest p q.is_first q.whole in
        (same-items cs ds p.rest q.rest rest [] t.0 p.is_rest q.is_rest (t.1 ∙ sym (append-nil q.rest))).0;
  }

  module _ (Fits : C → Type 0) (Reason : BorshError → List ℕ → Type 0) (apart : AreApart Spells Fits Reason) where
    not-short : (input : List ℕ) → HasItems Spells Fits input → length input < 8 → ⊥
    not-short input has few = omega (arith, has.counted.many, ap length has.whole, length-append has.count (has.bytes ++ has.tail))

    cut-at-items : (cs ds : List C) (x y : List ℕ) (a b : List ℕ) → a ++ x ≡ b ++ y → SpellsItems Spells cs a → SpellsItems Spells ds b → length cs < length ds → Reason Ended x → ⊥
    cut-at-items cs ds x y a b e p q few cut =
        let next = next-item Fits cs ds a b x y few p q e in
        apart.spelled_or_cut next.0 next.1.first next.1.rest next.1.is_first (subst (Reason Ended) next.1.whole cut)

    refused-at-items : (error : BorshError) → IsOfInput error → (cs ds : List C) (x y : List ℕ) (a b : List ℕ) → a ++ x ≡ b ++ y → SpellsItems Spells cs a → SpellsItems Spells ds b → length cs < length ds → AllByRecursion Fits ds → Reason error x → ⊥
    refused-at-items error of cs ds x y a b e p q few fit refused =
        let next = next-item Fits cs ds a b x y few p q e in
        apart.fits_or_refused error of next.0 next.1.first next.1.rest (next.2 fit) next.1.is_first (subst (Reason error) next.1.whole refused)

    -- two that have the same count
    has-items-same : (input : List ℕ) (r s : HasItems Spells Fits input) → r.bytes ++ r.tail ≡ s.bytes ++ s.tail
    has-items-same input r s = (same-count r.len s.len r.count s.count (r.bytes ++ r.tail) (s.bytes ++ s.tail) r.counted s.counted (sym r.whole ∙ s.whole)).2

    module _ (Allocates : List ℕ → Type 0) (room : ℕ) where
      -- no list that fits is refused for itself
      list-fits : (e : BorshError) → IsOfInput e → (cs : List C) (bytes rest : List ℕ) → ListFits Spells Fits room cs → SpellsList Spells cs bytes → OfList Spells Fits Allocates room e (bytes ++ rest) → ⊥
      list-fits Ended of cs bytes rest fits p few = omega (arith, few, p.is_first.many, parts-length p, length-append bytes rest)
      list-fits InvalidLength of cs bytes rest fits p l =
          let t = list-begins cs bytes rest l.len l.count (l.bytes ++ l.tail) p l.counted l.whole in
          omega (arith, l.above, t.0, fits.few)
      list-fits InvalidUtf8 of cs bytes rest fits p none = none
      list-fits Io of cs bytes rest fits p none = of
      list-fits Memory of cs bytes rest fits p none = of

      -- for one reason, as an item is for one
      one-of-list : (e f : BorshError) → IsOfInput e → IsOfInput f → (input : List ℕ) → OfList Spells Fits Allocates room e input → OfList Spells Fits Allocates room f input → e ≡ f
      one-of-list Ended Ended of_e of_f input r s = refl
      one-of-list Ended InvalidLength of_e of_f input r s = absurd (not-short input s.has r)
      one-of-list InvalidLength Ended of_e of_f input r s = absurd (not-short input r.has s)
      one-of-list InvalidLength InvalidLength of_e of_f input r s = refl
      one-of-list InvalidUtf8 f of_e of_f input r s = absurd r
      one-of-list Io f of_e of_f input r s = absurd of_e
      one-of-list Memory f of_e of_f input r s = absurd of_e
      one-of-list e InvalidUtf8 of_e of_f input r s = absurd s
      one-of-list e Io of_e of_f input r s = absurd of_f
      one-of-list e Memory of_e of_f input r s = absurd of_f

      list-or-item : (e f : BorshError) → IsOfInput e → IsOfInput f → (input : List ℕ) → OfList Spells Fits Allocates room e input → InItem Spells Fits (Reason f) room input → ⊥
      list-or-item Ended f of_e of_f input r s = not-short input s.has r
      list-or-item InvalidLength f of_e of_f input r s =
          refused-at-items f of_f s.items r.items s.tail r.tail s.bytes r.bytes (has-items-same input s.has r.has) s.spelled r.spelled (omega (arith, r.over, s.few)) r.fit s.left
      list-or-item InvalidUtf8 f of_e of_f input r s = r
      list-or-item Io f of_e of_f input r s = of_e
      list-or-item Memory f of_e of_f input r s = of_e

      one-item-reason : (e f : BorshError) → IsOfInput e → IsOfInput f → (input : List ℕ) → InItem Spells Fits (Reason e) room input → InItem Spells Fits (Reason f) room input → e ≡ f
      one-item-reason e f of_e of_f input r s =
          let same = has-items-same input r.has s.has in
          elim (cases_lt (length r.items) (length s.items)) [
            | inl less ↦ absurd (refused-at-items e of_e r.items s.items r.tail s.tail r.bytes s.bytes same r.spelled s.spelled less s.fit r.left)
            | inr at_least ↦ elim (cases_lt (length s.items) (length r.items)) [
              | inl more ↦ absurd (refused-at-items f of_f s.items r.items s.tail r.tail s.bytes r.bytes (sym same) s.spelled r.spelled more r.fit s.left)
              | inr equal ↦ apart.one_reason e f of_e of_f s.tail (subst (Reason e) (same-items r.items s.items r.bytes s.bytes r.tail s.tail (omega (arith, at_least, equal)) r.spelled s.spelled same).1 r.left) s.left
            ]
          ]

      pub list_apart : AreApart (SpellsList Spells) (ListFits Spells Fits room) (ListReason Spells Fits Reason Allocates room)
      list_apart = record {
        spelled_or_cut = λ cs bytes rest p cut. elim cut [
          | inl few ↦ omega (arith, few, p.is_first.many, parts-length p, length-append bytes rest)
          | inr c ↦
              let t = list-begins cs bytes rest c.len c.count (c.bytes ++ c.tail) p c.counted c.whole in
              cut-at-items c.items cs c.tail rest c.bytes p.rest (sym t.1) c.spelled p.is_rest (subst (λ n. length c.items < n) (sym t.0) c.fewer) c.left
        ];
        fits_or_refused = λ e of cs bytes rest fits p refused. elim refused [
          | inl l ↦ list-fits e of cs bytes rest fits p l
          | inr l ↦
              let t = list-begins cs bytes rest l.len l.count (l.bytes ++ l.tail) p l.counted l.whole in
              refused-at-items e of l.items cs l.tail rest l.bytes p.rest (sym t.1) l.spelled p.is_rest (subst (λ n. length l.items < n) (sym t.0) l.fewer) fits.items l.left
        ];
        one_reason = λ e f of_e of_f input r s. elim r [
          | inl r ↦ elim s [ inl s ↦ one-of-list e f of_e of_f input r s | inr s ↦ absurd (list-or-item e f of_e of_f input r s) ]
          | inr r ↦ elim s [ inl s ↦ absurd (list-or-item f e of_f of_e input s r) | inr s ↦ one-item-reason e f of_e of_f input r s ]
        ];
        front_is_cut = list-fronts Spells Fits (Reason Ended) apart.front_is_cut room;
        none_is_cut = inl (omega arith);
      }

module _ {C : Type 0} (Spells : C → List ℕ → Type 0) (Fits : C → Type 0) (spelled : (c : C) → Fits c → (bytes : List ℕ) × Spells c bytes) where
  items-spelled : (cs : List C) → AllByRecursion Fits cs → (bytes : List ℕ) × SpellsItems Spells cs bytes
  items-spelled [] fit = ([], refl)
  items-spelled (c ∷ cs) fit =
      let first = spelled c fit.0 in
      let rest = items-spelled cs fit.1 in
      (first.0 ++ rest.0, joined first.0 rest.0 first.1 rest.1)

  pub list_spelled : (room : ℕ) (cs : List C) → ListFits Spells Fits room cs → (bytes : List ℕ) × SpellsList Spells cs bytes
  list_spelled room cs fits =
      let count = number_spelled 8 (length cs) fits.counted in
      let rest = items-spelled cs fits.items in
      (count.0 ++ rest.0, joined count.0 rest.0 count.1 rest.1)
