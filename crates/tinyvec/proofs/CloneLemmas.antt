-- Lemmas on lists of clones. C is the `is_clone` of an item's `Clone`.
use Rattle.std.proofs.Common.{◌≡◌, ℕ, Result, Ok, Err, ◌+◌, ◌-◌, ◌<◌, ◌≤◌, List, [], ◌∷◌, ◌++◌, length, take, drop, slice_range, get_or, replicate, refl, sym, ap, subst, ◌∙◌, append_assoc, arith, length-append, length-drop, length-take, append-nil, take_at, drop_at, take-append-drop}
use Rattle.std.proofs.Concat.{each_append}
use Rattle.std.proofs.Math.Seq.{take-add}
use Rattle.std.proofs.lemmas.List.{places, take_more, take_rest, drop_all, length-replicate, get_or-replicate, get_or_default, get_or-take}
use Rattle.std.proofs.lemmas.List.Elements.{AllZip-push, length_all_zip}
use Rattle.std.specs.Prelude.{All, OnOk, OnErr, IsOk, if◌then◌else◌, is_ok}
use Rattle.std.specs.List.{AllZip, AppendsClones}
use Rattle.tinyvec_slots.specs.Clones.{RefusedAt}
use Rattle.tinyvec_slots.specs.Slots.{Slots, len_in, spare_in, all_slots}
use Rattle.tinyvec_slots.proofs.BorderLemmas.{spare_from}
use Rattle.tinyvec_slots.proofs.ClonesOverLemmas.{AllZip-cut, all_granted}
use borrow.Rule.Slice.PartMut.{post_of}

module _ {T : Type 0} (C : T → T → Type 0) where
  -- one more
  appends_next : (old new xs more : List T) (x y : T) → xs ++ x ∷ [] ≡ more → C x y → AppendsClones C old new xs → AppendsClones C old (new ++ y ∷ []) more
  appends_next old new xs more x y is clone h =
      let ys : List T = h.0 in (
        ys ++ y ∷ [],
        ap (λ l. l ++ y ∷ []) h.1 ∙ append_assoc old ys (y ∷ []),
        subst (λ l. AllZip C l (ys ++ y ∷ [])) is (AllZip-push C xs ys x y h.2 clone),
      )

  -- one more of the elements of a list
  pub appends_of_next : (old new from : List T) (i n : ℕ) (x y : T) → i < length from → n ≡ i + 1 → x ≡ get_or from i x → C x y
      → AppendsClones C old new (take i from) → AppendsClones C old (new ++ y ∷ []) (take n from)
  appends_of_next old new from i n x y lt next is =
      appends_next old new (take i from) (take n from) x y (ap (λ z. take i from ++ z ∷ []) is ∙ sym (take_more from i x lt) ∙ ap (λ k. take k from) (sym next))

  -- more behind those
  pub appends_join : (old mid new xs ys zs : List T) → xs ++ ys ≡ zs → AppendsClones C old mid xs → AppendsClones C mid new ys → AppendsClones C old new zs
  appends_join old mid new xs ys zs is h k = (
    h.0 ++ k.0,
    k.1 ∙ ap (λ l. l ++ k.0) h.1 ∙ append_assoc old h.0 k.0,
    subst (λ l. AllZip C l (h.0 ++ k.0)) is (each_append C xs h.0 ys k.0 h.2 k.2),
  )

  pub appends_len : (old new more : List T) → AppendsClones C old new more → length new ≡ length old + length more
  appends_len old new more h = rw (h.1, length-append, length_all_zip C more h.0 h.2)

  -- behind an empty list
  pub appends_alone : (old new more : List T) → old ≡ [] → AppendsClones C old new more → AllZip C more new
  appends_alone old new more none h = subst (AllZip C more) (sym (h.1 ∙ ap (λ l. l ++ h.0) none)) h.2

  -- behind clones of the first n
  pub appends_rest : (mid new source seen other : List T) (n : ℕ) → seen ≡ source → other ≡ source → AllZip C (take n seen) mid
      → AppendsClones C mid new (take (length other - n) (drop n other)) → AllZip C source new
  appends_rest mid new source seen other n front back first h =
      let clones = each_append C (take n seen) mid (take (length other - n) (drop n other)) h.0 first h.2 in
      rw h.1 (rw (take_rest other n, front, back, take-append-drop n source) at clones)

  -- clones of all slots are clones of the spare ones
  pub spare_cloned : (v w : Slots T) → len_in w ≡ len_in v → AllZip C (all_slots v) (all_slots w) → AllZip C (spare_in v) (spare_in w)
  spare_cloned v w long h =
      rw (spare_from v.len v.slots (len_in v) refl, spare_from w.len w.slots (len_in v) (sym long)) at (AllZip-cut C (len_in v) (all_slots v) (all_slots w) h).1

-- the clone of the element at i was refused
pub refused_at : {T : Type 0} (I : T → Type 0) (from : List T) (i : ℕ) (x : T) → i < length from → x ≡ get_or from i x → (I x → ⊥) → (j : ℕ) × RefusedAt I from j
refused_at I from i x lt is refused = (i, (lt, λ d sure. refused (subst I (get_or_default from i d x lt ∙ sym is) sure)))

-- and that of one of n copies
pub copy_refused : {T : Type 0} (I : T → Type 0) (n i : ℕ) (x : T) → i < n → (I x → ⊥) → RefusedAt I (replicate n x) i
copy_refused I n i x lt refused = (omega (arith, lt, length-replicate n x), λ d sure. refused (subst I (get_or-replicate n i x d lt) sure))

-- a call fails only if a clone was refused
pub none_refused : {T X E : Type 0} (I : T → Type 0) (xs : List T) (r : Result X E) → OnErr r ((j : ℕ) × RefusedAt I xs j) → All I xs → IsOk r
none_refused I xs (Ok x) refused all = refl
none_refused I xs (Err e) refused all = absurd (all_granted I xs refused.0 all refused.1)

-- Clones of the items of `old` from `start` up to i were appended, one by one.
module _ {T : Type 0} (C : T → T → Type 0) (old new : List T) (start i : ℕ) (le : start ≤ i) (h : AppendsClones C old new (slice_range old start i)) where
  pub within_len : i ≤ length old → length new ≡ length old + (i - start)
  within_len last = omega (arith, appends_len C old new (slice_range old start i) h, length-take (i - start) (drop start old), length-drop start old, le, last)

  module _ (x : T) (lt : i < length old) (is : x ≡ get_or new i x) where
    within_read : x ≡ get_or (drop start old) (i - start) x
    within_read = grind (arith, places, h.1)

    pub within_next : (y : T) → C x y → AppendsClones C old (new ++ y ∷ []) (slice_range old start (i + 1))
    within_next y clone =
        appends_of_next C old new (drop start old) (i - start) (i + 1 - start) x y (omega (arith, length-drop start old, le, lt)) (omega (arith, le)) within_read clone h

    pub within_refused : (I : T → Type 0) (end : ℕ) → i < end → end ≤ length old → (I x → ⊥) → (j : ℕ) × RefusedAt I (slice_range old start end) j
    within_refused I end before last refused =
        let few : i - start < end - start = omega (arith, le, before) in
        refused_at I (slice_range old start end) (i - start) x (omega (arith, length-take (end - start) (drop start old), length-drop start old, last, few))
        (within_read ∙ sym (get_or-take (end - start) (drop start old) (i - start) x few)) refused

-- what a value is after each outcome of a call, said at once
pub chosen : {T E A : Type 0} (r : Result T E) {x : A} (y z : A) → OnOk r (x ≡ y) → OnErr r (x ≡ z) → x ≡ (if is_ok r then y else z)
chosen (Ok t) y z ok err = ok
chosen (Err e) y z ok err = err

-- behind the first a items of `from` the next n were appended
pub appended_further : {T : Type 0} (old mid new from : List T) (a n : ℕ) → mid ≡ old ++ take a from → new ≡ mid ++ take n (take (length from - a) (drop a from)) → new ≡ old ++ take (a + n) from
appended_further old mid new from a n first next = rw (next, take_rest from a, first, append_assoc, take-add a n from)

-- A block was written over the last n elements, which lie behind `old`.
module _ {T : Type 0} (old ys block now new items : List T) (at n m : ℕ) where
  abbrev written : List T
  written = take at now ++ (new ++ post_of at (length now - at) now)

  pub written_last : now ≡ old ++ ys → length old ≡ at → length ys ≡ n → length block ≡ n → m ≡ length now
      → new ≡ block ++ drop n (take (length now - at) (drop at now)) → take m (written ++ drop (length written) items) ≡ old ++ block
  written_last is long behind whole all made =
      let few : length ys ≤ length (old ++ ys) - at = omega (arith, length-append old ys, long) in
      let gone : drop n (take (length (old ++ ys) - at) ys) ≡ [] = drop_all n (take (length (old ++ ys) - at) ys) (omega (arith, length-take (length (old ++ ys) - at) ys, behind)) in
      rw (made, is, take_at old ys at long, drop_at old ys at long, gone, drop_all (length (old ++ ys) - at) ys few, append-nil block, append-nil block)
      (take_at (old ++ block) _ m (omega (arith, length-append old block, length-append old ys, ap length is, behind, whole, all)))
