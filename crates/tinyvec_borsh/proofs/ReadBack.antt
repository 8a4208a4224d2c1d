-- What is spelled is read.
use Rattle.std.proofs.Common.{◌≡◌, ◌∙◌, ap, sym, subst, ℕ, ◌⊎◌, inl, inr, List, [], ◌∷◌, ◌++◌, map, refl, Option, None, Some, Result, Ok, Err, IfOk, IfErr, append-nil}
use Rattle.std.proofs.lemmas.Result.{IfOk-weaker}
use Rattle.std.proofs.lemmas.Simd.{map-map}
use Rattle.tinyvec_borsh.specs.declared.borsh_error.BorshError.{BorshError}
use Rattle.tinyvec_borsh.specs.declared.borsh_error.BorshError.TheVariants.{Ended, InvalidLength, InvalidUtf8, Io, Memory}
use Rattle.tinyvec_borsh.specs.Apart.{AreApart}
use Rattle.tinyvec_borsh.specs.Code.{IsCode, TellsApart}
use Rattle.tinyvec_borsh.specs.ItemsLaws.{same-item}
use Rattle.tinyvec_borsh.specs.Reading.{ReadsSpelling, Fails, MayBe, ReadsBack}

module _ {T C : Type 0} (content : T → C) (Spells : C → List ℕ → Type 0) (code : IsCode Spells) where
  pub takes-it : (c d : C) (bytes rest : List ℕ) (new : Option (List ℕ)) → Spells c bytes → ReadsSpelling (Spells d) (Some (bytes ++ rest)) new → (d ≡ c) × (new ≡ Some rest)
  takes-it c d bytes rest None p t = absurd t.2
  takes-it c d bytes rest (Some y) p t = let same = same-item Spells code d c t.0 bytes y rest t.1 p (sym t.2) in (same.0, ap Some same.2)

  pub reads-back : (Fits : C → Type 0) (Reason : BorshError → List ℕ → Type 0) → AreApart Spells Fits Reason → (old new : Option (List ℕ)) (before after : ℕ) (r : Result T BorshError)
      → IfOk r (λ v. ReadsSpelling (Spells (content v)) old new) → IfErr r (Fails Reason old before after)
      → (c : C) (bytes rest : List ℕ) → Fits c → Spells c bytes → old ≡ Some (bytes ++ rest) → ReadsBack content (Reason Memory) c (bytes ++ rest) rest new before after r
  reads-back Fits Reason apart old new before after (Ok v) ok err c bytes rest f p is = takes-it c (content v) bytes rest new p (subst (λ o. ReadsSpelling (Spells (content v)) o new) is ok)
  reads-back Fits Reason apart old new before after (Err Ended) ok err c bytes rest f p is = apart.spelled_or_cut c bytes rest p (subst (λ o. MayBe o (Reason Ended)) is err)
  reads-back Fits Reason apart old new before after (Err InvalidLength) ok err c bytes rest f p is = apart.fits_or_refused InvalidLength tt c bytes rest f p (subst (λ o. MayBe o (Reason InvalidLength)) is err)
  reads-back Fits Reason apart old new before after (Err InvalidUtf8) ok err c bytes rest f p is = apart.fits_or_refused InvalidUtf8 tt c bytes rest f p (subst (λ o. MayBe o (Reason InvalidUtf8)) is err)
  reads-back Fits Reason apart old new before after (Err Io) ok err c bytes rest f p is = err
  reads-back Fits Reason apart old new before after (Err Memory) ok err c bytes rest f p is = subst (λ o. MayBe o (Reason Memory)) is err

  outcome : (MayAllocate : List ℕ → Type 0) (c : C) (input rest : List ℕ) (new : Option (List ℕ)) (before after : ℕ) (r : Result T BorshError) → ReadsBack content MayAllocate c input rest new before after r
      → IfOk r (λ v. content v ≡ c) × IfErr r (λ e. (e ≡ Io) ⊎ (e ≡ Memory))
  outcome MayAllocate c input rest new before after (Ok v) back = (back.0, tt)
  outcome MayAllocate c input rest new before after (Err Ended) back = absurd back
  outcome MayAllocate c input rest new before after (Err InvalidLength) back = absurd back
  outcome MayAllocate c input rest new before after (Err InvalidUtf8) back = absurd back
  outcome MayAllocate c input rest new before after (Err Io) back = (tt, inl refl)
  outcome MayAllocate c input rest new before after (Err Memory) back = (tt, inr refl)

  -- what was written is read again, faults and want of memory aside
  pub reads-written : (Fits : C → Type 0) (Reason : BorshError → List ℕ → Type 0) → AreApart Spells Fits Reason → (old new : Option (List ℕ)) (before after : ℕ) (r : Result T BorshError)
      → IfOk r (λ v. ReadsSpelling (Spells (content v)) old new) → IfErr r (Fails Reason old before after)
      → (c : C) (bytes : List ℕ) → Fits c → Spells c bytes → old ≡ Some bytes → IfOk r (λ v. content v ≡ c) × IfErr r (λ e. (e ≡ Io) ⊎ (e ≡ Memory))
  reads-written Fits Reason apart old new before after r ok err c bytes f p is =
      outcome (Reason Memory) c (bytes ++ []) [] new before after r (reads-back Fits Reason apart old new before after r ok err c bytes [] f p (is ∙ ap Some (sym (append-nil bytes))))

-- Of items that differ only where their contents do, the lists are equal where their contents are.
pub same-list : {T C : Type 0} (content : T → C) → TellsApart content → (xs ys : List T) → map content xs ≡ map content ys → xs ≡ ys
same-list content apart [] [] e = refl
same-list content apart [] (y ∷ ys) e = cc
same-list content apart (x ∷ xs) [] e = cc
same-list content apart (x ∷ xs) (y ∷ ys) e = λ i. apart x y (cc) i ∷ same-list content apart xs ys (cc) i

module _ {V E T C : Type 0} (content : T → C) (apart : TellsApart content) (r : Result V E) where
  -- so a list that was read again is the one that was written
  pub same-items : (items : V → List T) (v : V) → IfOk r (λ w. map content (items w) ≡ map content (items v)) → IfOk r (λ w. items w ≡ items v)
  same-items items v = IfOk-weaker r _ _ (λ w. same-list content apart (items w) (items v))

  -- and so of a list of lists
  pub same-lists : {W : Type 0} (items : W → List T) (lists : V → List W) (v : V) → IfOk r (λ w. map (λ l. map content (items l)) (lists w) ≡ map (λ l. map content (items l)) (lists v)) → IfOk r (λ w. map items (lists w) ≡ map items (lists v))
  same-lists items lists v = IfOk-weaker r _ _ (λ w e. same-list (map content) (same-list content apart) (map items (lists w)) (map items (lists v)) (map-map (map content) items (lists w) ∙ e ∙ sym (map-map (map content) items (lists v))))
