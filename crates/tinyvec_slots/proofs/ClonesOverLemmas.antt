-- Clones written over slots, block by block.
use Rattle.std.proofs.Common.{◌≡◌, ℕ, zero, suc, ◌+◌, ◌-◌, ◌<◌, ◌≤◌, List, [], ◌∷◌, ◌++◌, All, length, take, drop, set, get_or, refl, sym, ap, subst, ◌∙◌, le_refl, arith, append-nil, append_assoc, length-append, take_at, drop_at, take_all, drop-drop, get_or-drop}
use Rattle.std.proofs.lemmas.List.{take_more, drop_all, take_rest}
use Rattle.std.proofs.lemmas.List.Elements.{All-get_or, All-take, All-drop, AllZip-push}
use Rattle.std.proofs.lemmas.Result.{IfOk-from_err, on_ok_weaker, on_err_weaker}
use Rattle.std.proofs.Concat.{each_append}
use Rattle.std.proofs.Math.Seq.{take-add}
use Rattle.std.specs.Prelude.{Result, IsErr}
use Rattle.std.specs.declared.clone.Clone as Clone
use Rattle.std.specs.List.{AllZip, HoldsAt}
use Rattle.tinyvec_slots.specs.Clones.{RefusedAt, ClonesOver, ClonesOverFrom, WritesClones}
use Rattle.tinyvec_slots.proofs.CloneLemmas.{on_err, set_next, written_part, length-part}
use borrow.Rule.Slice.PartMut.{post_of}

-- where each clone is granted, none is refused
pub all_granted : {X : Type 0} (I : X → Type 0) (xs : List X) (j : ℕ) → All I xs → RefusedAt I xs j → ⊥
all_granted I [] j all h = omega (arith, h.0)
all_granted I (x ∷ xs) j all h = h.1 x (All-get_or I (x ∷ xs) j x h.0 all)

module _ {X : Type 0} (C : X → X → Type 0) where
  -- none yet
  pub clones_none : (from old : List X) → ClonesOver C (take 0 from) 0 old old
  clones_none from old = record { made = []; clones = tt; count = refl; written = refl }

  -- one more
  clones_next : (xs more old new : List X) (i : ℕ) (x y : X) → xs ++ x ∷ [] ≡ more → i < length old → C x y
      → ClonesOver C xs i old new → ClonesOver C more (i + 1) old (set new i y)
  clones_next xs more old new i x y is lt clone h = record {
    made = h.made ++ y ∷ [];
    clones = subst (λ l. AllZip C l (h.made ++ y ∷ [])) is (AllZip-push C xs h.made x y h.clones clone);
    count = length-append h.made (y ∷ []) ∙ ap (λ n. n + 1) h.count;
    written = ap (λ l. set l i y) h.written ∙ set_next h.made old i y h.count lt;
  }

  -- one more of the elements of a list
  pub clones_of_next : (from old new : List X) (i : ℕ) (x y : X) → i < length from → length from ≤ length old → x ≡ get_or from i x → C x y
      → ClonesOver C (take i from) i old new → ClonesOver C (take (i + 1) from) (i + 1) old (set new i y)
  clones_of_next from old new i x y lt fits is =
      clones_next (take i from) (take (i + 1) from) old new i x y (ap (λ z. take i from ++ z ∷ []) is ∙ sym (take_more from i x lt)) (omega arith)

  -- all of them
  pub clones_all : (from old new : List X) (n : ℕ) → length from ≤ n → ClonesOver C (take n from) n old new → n ≤ length from → ClonesOver C from (length from) old new
  clones_all from old new n le h fits =
      let same : n ≡ length from = omega arith in
      rw (take_all n from le, same) at h

  -- over k elements from `start` on, seen from all of them
  pub clones_from : (start k n : ℕ) (xs old new : List X) → start + k ≤ length old → n ≤ k
      → ClonesOver C xs n (take k (drop start old)) new → ClonesOverFrom C start xs n old (take start old ++ (new ++ post_of start k old))
  clones_from start k n xs old new within fits h = record {
    made = h.made;
    clones = h.clones;
    count = h.count;
    written = written_part old old h.made new start k n refl h.written fits within;
  }

  -- over the elements behind the first `at`
  pub clones_behind_first : (at n : ℕ) (xs old new : List X) → ClonesOver C xs n (drop at old) new → ClonesOverFrom C at xs n old (take at old ++ new)
  clones_behind_first at n xs old new h = record {
    made = h.made;
    clones = h.clones;
    count = h.count;
    written = rw (h.written, drop-drop, append_assoc);
  }

  -- over all elements
  pub clones_whole_of : (xs old new : List X) → length xs ≡ length old → ClonesOver C xs (length xs) old new → AllZip C xs new
  clones_whole_of xs old new same h = rw (h.written, drop_all (length xs) old (omega (arith, same)), append-nil) h.clones

  -- the first n of a list of clones, and the others
  pub AllZip-cut : (n : ℕ) (xs ys : List X) → AllZip C xs ys → AllZip C (take n xs) (take n ys) × AllZip C (drop n xs) (drop n ys)
  AllZip-cut zero xs ys h = (tt, h)
  AllZip-cut (suc n) [] [] h = (tt, tt)
  AllZip-cut (suc n) [] (y ∷ ys) h = absurd h
  AllZip-cut (suc n) (x ∷ xs) [] h = absurd h
  AllZip-cut (suc n) (x ∷ xs) (y ∷ ys) h = let cut = AllZip-cut n xs ys h.1 in ((h.0, cut.0), cut.1)

  -- more clones behind the first a
  module _ (from old to part : List X) (a : ℕ) (fits : length from ≤ length old) (long : length to ≡ length old)
      (within : a ≤ length from) (done : ClonesOver C (take a from) a old to) where
    abbrev rest : List X
    rest = take (length from - a) (drop a from)

    abbrev lent : List X
    lent = take (length to - a) (drop a to)

    abbrev written : List X
    written = take a to ++ (part ++ post_of a (length to - a) to)

    rest_whole : rest ≡ drop a from
    rest_whole = take_rest from a

    rest_len : length rest ≡ length from - a
    rest_len = length-part from a (length from - a) (omega arith)

    pub clones_further : (k : ℕ) → k ≤ length rest → ClonesOver C (take k rest) k lent part
        → (a + k ≤ length from) × ClonesOver C (take (a + k) from) (a + k) old written
    clones_further k fit h =
        let ys : List X = done.made in
        let zs : List X = h.made in
        let ends : a + k ≤ length from = omega (arith, fit, rest_len) in
        let end : drop (a + k) (ys ++ drop a old) ≡ drop (a + k) old = rw (← drop-drop k a (ys ++ drop a old), drop_at ys (drop a old) a done.count, drop-drop) in
        let cut : take a from ++ take k rest ≡ take (a + k) from = rw (rest_whole, take-add a k from) in (
          ends,
          record {
            made = ys ++ zs;
            clones = rw cut at (each_append C (take a from) ys (take k rest) zs done.clones h.clones);
            count = rw (length-append, done.count, h.count);
            written = written_part to (ys ++ drop a old) zs part a (length to - a) k done.written h.written (omega arith) (omega arith)
                ∙ rw (take_at ys (drop a old) a done.count, end);
          },
        )

    -- all were written
    pub clones_whole : ClonesOver C rest (length rest) lent part → ClonesOver C from (length from) old written
    clones_whole h =
        let further = clones_further (length rest) (le_refl _) (rw (take_all (length rest) rest (le_refl _)) h) in
        clones_all from old written (a + length rest) (omega (arith, rest_len)) further.1 further.0

    -- a clone was refused
    pub clones_in_part : (I : X → Type 0) → (j : ℕ) × RefusedAt I rest j × ClonesOver C (take j rest) j lent part
        → (j : ℕ) × RefusedAt I from j × ClonesOver C (take j from) j old written
    clones_in_part I found =
        let j : ℕ = found.0 in
        let below : j < length rest = found.1.0 in
        let refused : HoldsAt (λ x. ¬ (I x)) from (a + j) = λ d. rw (← get_or-drop a from j d, ← rest_whole) (found.1.1 d) in (
          a + j,
          (omega (arith, below, rest_len), refused),
          (clones_further j (omega (arith, below)) found.2).1,
        )

module _ {X R E : Type 0} (g : Clone.Ghosts X) (r : Result R E) where
  -- a call that was refused a clone
  pub refused_writes : (Written : List X → ℕ → Type 0) (xs : List X) (j : ℕ) → IsErr r → RefusedAt g.is_infallible xs j → Written (take j xs) j
      → WritesClones g Written xs r
  refused_writes Written xs j err refused made = record {
    ok = IfOk-from_err r (λ _. Written xs (length xs)) err;
    refused = on_err r (j, refused, made);
    succeeds = λ all. absurd (all_granted g.is_infallible xs j all refused);
  }

  -- a call that wrote clones of a part of the elements, seen from all of them
  pub writes_weaker : (Written Seen : List X → ℕ → Type 0) (xs : List X) → ((ys : List X) (n : ℕ) → n ≤ length xs → Written ys n → Seen ys n)
      → WritesClones g Written xs r → WritesClones g Seen xs r
  writes_weaker Written Seen xs seen h = record {
    ok = on_ok_weaker r (seen xs (length xs) (le_refl _)) h.ok;
    refused = on_err_weaker r (λ w. let below : w.0 < length xs = w.1.0 in (w.0, w.1, seen (take w.0 xs) w.0 (omega (arith, below)) w.2)) h.refused;
    succeeds = h.succeeds;
  }

  -- a call that wrote the elements behind those that are done
  pub writes_joined : (from old to part : List X) (a : ℕ) (fits : length from ≤ length old) (long : length to ≡ length old)
      (within : a ≤ length from) (done : ClonesOver g.is_clone (take a from) a old to)
      → WritesClones g (λ ys n. ClonesOver g.is_clone ys n (take (length to - a) (drop a to)) part) (take (length from - a) (drop a from)) r
      → WritesClones g (λ ys n. ClonesOver g.is_clone ys n old (take a to ++ (part ++ post_of a (length to - a) to))) from r
  writes_joined from old to part a fits long within done h = record {
    ok = on_ok_weaker r (clones_whole g.is_clone from old to part a fits long within done) h.ok;
    refused = on_err_weaker r (clones_in_part g.is_clone from old to part a fits long within done g.is_infallible) h.refused;
    succeeds = λ all. h.succeeds (All-take g.is_infallible (length from - a) (drop a from) (All-drop g.is_infallible a from all));
  }

  -- a call that wrote clones over the slots from `start` on, seen from all of them
  pub writes_from : (start : ℕ) (xs slots new : List X) → start + length xs ≤ length slots
      → WritesClones g (λ ys n. ClonesOver g.is_clone ys n (take (length slots - start) (drop start slots)) new) xs r
      → WritesClones g (λ ys n. ClonesOverFrom g.is_clone start ys n slots (take start slots ++ (new ++ post_of start (length slots - start) slots))) xs r
  writes_from start xs slots new fits =
      writes_weaker _ _ xs (λ ys n le. clones_from g.is_clone start (length slots - start) n ys slots new (omega (arith, fits)) (omega (arith, fits, le)))
