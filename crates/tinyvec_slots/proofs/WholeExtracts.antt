-- What an `extract_if` of a whole list yields and leaves, driven to its end or once.
use Rattle.std.proofs.Common.{◌≡◌, ℕ, ◌+◌, ◌-◌, Bool, true, false, not, cond, List, [], ◌∷◌, ◌++◌, length, take, drop, slice_range, Option, Some, None, refl, sym, ap, ◌∙◌, subst, arith, MatchBool, append-nil, append_assoc, take_all, suc}
use Rattle.std.proofs.iter.runs.Lists.{none-some, same_Some}
use Rattle.std.proofs.lemmas.List.{drop_all}
use Rattle.std.specs.Borrow.{MutBor}
use Rattle.std.specs.Fn.{CalledAtMut, Mut}
use Rattle.std.specs.Iterator.{Yields}
use Rattle.std.specs.List.{filter, find, position_or_len, before_first, after_first}
use Rattle.std.specs.List.Retain.{ExtractsNext}
use Rattle.tinyvec_slots.specs.Extracting.{Extracts, ExtractSteps, ExtractLies, ExtractLeaves, extract_vec, extract_lender, extract_rest, extract_closure, extract_front, extract_back}
use Rattle.tinyvec_slots.specs.declared.extracting.ExtractIf.{ExtractIf}

module _ {S X : Type 0} (R : S → X → Bool → S → X → Type 0) where
  -- R went over xs from s on. `chosen` has those of which it said `true`, and `kept` the others, each as R left it.
  abbrev pub ExtractsAll : S → List X → List X → List X → Type 0
  ExtractsAll s [] chosen kept = (chosen ≡ []) × (kept ≡ [])
  ExtractsAll s (x ∷ xs) chosen kept =
      (b : Bool) × (t : S) × (y : X) × R s x b t y
      × MatchBool b ((cs : List X) × ExtractsAll t xs cs kept × (chosen ≡ y ∷ cs)) ((ks : List X) × ExtractsAll t xs chosen ks × (kept ≡ y ∷ ks))

  -- at s, R says `test` of each item, and changes nothing
  abbrev pub TestsBy : (X → Bool) → S → Type 0
  TestsBy test s = (x : X) (b : Bool) (t : S) (y : X) → R s x b t y → (b ≡ test x) × (t ≡ s) × (y ≡ x)

module _ {S X : Type 0} (R : S → X → Bool → S → X → Type 0) where
  -- a call that finds no more
  asked_none : (s : S) (xs : List X) (t : S) (kept rest : List X) → ExtractsNext R s xs None t kept rest → ExtractsAll R s xs [] kept × (rest ≡ [])
  asked_none s [] t kept rest h = ((refl, h.2), h.3)
  asked_none s (x ∷ xs) t kept rest (true, u, y, asked, h) = absurd (none-some y h.0)
  asked_none s (x ∷ xs) t kept rest (false, u, y, asked, h) =
      let on = asked_none u xs t h.0 rest h.1 in ((false, u, y, asked, (h.0, on.0, h.2)), on.1)

  -- a call that yields x, before those that yield cs
  asked_some : (s : S) (xs : List X) (x : X) (t : S) (kept rest : List X) → ExtractsNext R s xs (Some x) t kept rest
      → (cs ks : List X) → ExtractsAll R t rest cs ks → ExtractsAll R s xs (x ∷ cs) (kept ++ ks)
  asked_some s [] x t kept rest h cs ks on = absurd (none-some x (sym h.0))
  asked_some s (z ∷ zs) x t kept rest (true, u, y, asked, h) cs ks on =
      let left = subst (λ l. ExtractsAll R u l cs ks) h.3 (subst (λ p. ExtractsAll R p rest cs ks) h.1 on) in
      (true, u, y, asked, (cs, subst (λ l. ExtractsAll R u zs cs (l ++ ks)) (sym h.2) left, ap (λ w. w ∷ cs) (same_Some x y h.0)))
  asked_some s (z ∷ zs) x t kept rest (false, u, y, asked, h) cs ks on =
      (false, u, y, asked, (h.0 ++ ks, asked_some u zs x t h.0 rest h.1 cs ks on, ap (λ l. l ++ ks) h.2))

  module _ (test : X → Bool) (s : S) (says : TestsBy R test s) where
    pub split_by_test : (xs cs ks : List X) → ExtractsAll R s xs cs ks → (cs ≡ filter test xs) × (ks ≡ filter (λ x. not (test x)) xs)
    split_by_test [] cs ks h = h
    split_by_test (x ∷ xs) cs ks (true, t, y, asked, h) =
        let said = says x true t y asked in
        let later = split_by_test xs h.0 ks (subst (λ p. ExtractsAll R p xs h.0 ks) said.1 h.1) in (
          h.2 ∙ (λ i. said.2 i ∷ later.0 i) ∙ ap (λ b. cond b (x ∷ filter test xs) (filter test xs)) said.0,
          later.1 ∙ ap (λ b. cond (not b) (x ∷ filter (λ z. not (test z)) xs) (filter (λ z. not (test z)) xs)) said.0,
        )
    split_by_test (x ∷ xs) cs ks (false, t, y, asked, h) =
        let said = says x false t y asked in
        let later = split_by_test xs cs h.0 (subst (λ p. ExtractsAll R p xs cs h.0) said.1 h.1) in (
          later.0 ∙ ap (λ b. cond b (x ∷ filter test xs) (filter test xs)) said.0,
          h.2 ∙ (λ i. said.2 i ∷ later.1 i) ∙ ap (λ b. cond (not b) (x ∷ filter (λ z. not (test z)) xs) (filter (λ z. not (test z)) xs)) said.0,
        )

    pub find_by_test : (xs : List X) (r : Option X) (u : S) (kept rest : List X) → ExtractsNext R s xs r u kept rest
        → (r ≡ find test xs) × (kept ≡ before_first test xs) × (rest ≡ after_first test xs)
    find_by_test [] r u kept rest h = (h.0, h.2, h.3)
    find_by_test (x ∷ xs) r u kept rest (true, t, y, asked, h) =
        let said = says x true t y asked in
        let here : 0 ≡ position_or_len test (x ∷ xs) = ap (λ b. cond (not b) (1 + position_or_len test xs) 0) said.0 in (
          h.0 ∙ ap Some said.2 ∙ ap (λ b. cond b (Some x) (find test xs)) said.0,
          h.2 ∙ ap (λ n. take n (x ∷ xs)) here,
          h.3 ∙ ap (λ n. drop (n + 1) (x ∷ xs)) here,
        )
    find_by_test (x ∷ xs) r u kept rest (false, t, y, asked, h) =
        let said = says x false t y asked in
        let n = position_or_len test xs in
        let later = find_by_test xs r u h.0 rest (subst (λ p. ExtractsNext R p xs r u h.0 rest) said.1 h.1) in
        let one : suc n ≡ 1 + n = omega arith in
        let here : suc n ≡ position_or_len test (x ∷ xs) = one ∙ ap (λ b. cond (not b) (1 + n) 0) said.0 in
        let next : suc (n + 1) ≡ position_or_len test (x ∷ xs) + 1 = omega (arith, here) in (
          later.0 ∙ ap (λ b. cond b (Some x) (find test xs)) said.0,
          h.2 ∙ (λ i. said.2 i ∷ later.1 i) ∙ ap (λ k. take k (x ∷ xs)) here,
          later.2 ∙ ap (λ k. drop k (x ∷ xs)) next,
        )

-- where the range is the whole list
module _ {X : Type 0} (xs : List X) (start end : ℕ) (from : start ≡ 0) (to : end ≡ length xs) where
  whole_range : slice_range xs start end ≡ xs
  whole_range = rw from (take_all (end - 0) xs (omega arith))

  whole_left : (kept : List X) → take start xs ++ kept ++ drop end xs ≡ kept
  whole_left kept = rw (from, drop_all end xs (omega arith)) (append-nil kept)

module _ {V T F : Type 0} (items : V → List T) (Truncated : V → V → Type 0) (g : Mut F (MutBor T × Unit {0}) (Bool × (MutBor T × Unit {0})))
    (e : ExtractIf V F T) (v : V) where
  -- calls of `next` from i yielded xs and then nothing, and left e, whose drop left v
  record Drives (i : ExtractIf V F T) (xs : List T) : Type 0 where
    kept : List T
    asked : ExtractsAll (CalledAtMut g) (extract_closure i) (extract_rest items i) xs kept
    items_are : items v ≡ extract_front items i ++ kept ++ extract_back items i
    cut : Truncated (extract_vec i) v
    same_reference : extract_lender e ≡ extract_lender i

  -- the same, where i is of the whole list of what `old` refers to
  pub record ExtractedAll (old : MutBor V) (closure : F) (xs : List T) : Type 0 where
    pub asked : ExtractsAll (CalledAtMut g) closure (items old.now) xs (items v)
    pub cut : Truncated old.now v
    pub same_reference : extract_lender e ≡ old.ghost_name

  -- one call of `next` returned r, and left e, whose drop left v
  pub record ExtractedOnce (old : MutBor V) (closure : F) (r : Option T) : Type 0 where
    pub kept : List T
    pub asked : ExtractsNext (CalledAtMut g) closure (items old.now) r (extract_closure e) kept (extract_rest items e)
    pub items_are : items v ≡ kept ++ extract_rest items e
    pub same_reference : extract_lender e ≡ old.ghost_name

module _ {V T F : Type 0} {items : V → List T} {room : V → ℕ} {Truncated : V → V → Type 0} {g : Mut F (MutBor T × Unit {0}) (Bool × (MutBor T × Unit {0}))}
    {e : ExtractIf V F T} {v : V} (leaves : ExtractLies items e → ExtractLeaves items room Truncated e v) where
  drives : (xs : List T) (i d : ExtractIf V F T) → Yields (ExtractSteps items Truncated g) i xs d → ExtractSteps items Truncated g d None e
      → ExtractLies items i → Drives items Truncated g e v i xs
  drives [] i d is last lies =
      let s : ExtractSteps items Truncated g i None e = subst (λ p. ExtractSteps items Truncated g p None e) (sym is) last in
      let all = asked_none (CalledAtMut g) _ _ _ s.kept _ s.asked in
      let left = leaves (s.keeps.lies lies) in record {
        kept = s.kept;
        asked = all.0;
        items_are = left.items_are ∙ rw (s.front, all.1, s.keeps.back) (ap (λ l. l ++ extract_back items i) (append-nil (extract_front items i ++ s.kept)));
        cut = s.keeps.cut v left.cut;
        same_reference = s.keeps.same_reference;
      }
  drives (x ∷ xs) i d (j, s, on) last lies =
      let later = drives xs j d on last (s.keeps.lies lies) in record {
        kept = s.kept ++ later.kept;
        asked = asked_some (CalledAtMut g) _ _ x _ s.kept _ s.asked xs later.kept later.asked;
        items_are = later.items_are ∙ rw (s.front, s.keeps.back)
            (ap (λ l. l ++ extract_back items i) (append_assoc (extract_front items i) s.kept later.kept));
        cut = s.keeps.cut v later.cut;
        same_reference = later.same_reference ∙ s.keeps.same_reference;
      }

  module _ {old : MutBor V} {start end : ℕ} {closure : F} {i : ExtractIf V F T} (made : Extracts items Truncated g old start end closure i)
      (from : start ≡ 0) (to : end ≡ length (items old.now)) where
    rest_is : extract_rest items i ≡ items old.now
    rest_is = made.rest ∙ whole_range (items old.now) start end from to

    pub extracted_all : {d : ExtractIf V F T} {xs : List T} → Yields (ExtractSteps items Truncated g) i xs d → ExtractSteps items Truncated g d None e
        → ExtractedAll items Truncated g e v old closure xs
    extracted_all {d} {xs} on last =
        let all = drives xs i d on last made.lies in
        let left : items v ≡ all.kept = all.items_are ∙ rw (made.front, made.back) (whole_left (items old.now) start end from to all.kept) in record {
          asked = rw (left, ← made.closure_is, ← rest_is) all.asked;
          cut = subst (λ u. Truncated u v) made.vec all.cut;
          same_reference = all.same_reference ∙ made.same_reference;
        }

    pub extracted_once : {r : Option T} → ExtractSteps items Truncated g i r e → ExtractedOnce items Truncated g e v old closure r
    extracted_once {r} s =
        let left = leaves (s.keeps.lies made.lies) in
        let rest = extract_rest items e in record {
          kept = s.kept;
          asked = rw (← made.closure_is, ← rest_is) s.asked;
          items_are = left.items_are ∙ rw (s.front, made.front, s.keeps.back, made.back, append_assoc (take start (items old.now)) s.kept rest)
              (whole_left (items old.now) start end from to (s.kept ++ rest));
          same_reference = s.keeps.same_reference ∙ made.same_reference;
        }
