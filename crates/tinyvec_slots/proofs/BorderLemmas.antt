-- Lemmas on calls that write slots and then move the border between the items and the spare slots.
use Rattle.std.proofs.Common.{◌≡◌, ℕ, ◌+◌, ◌-◌, ◌<◌, ◌≤◌, List, ◌∷◌, ◌++◌, length, take, drop, set, remove, slice_range, true≢false, refl, sym, ap, subst, ◌∙◌, arith, rules, take_at, drop_at, length-append, append_assoc, length-take, length-take-le}
use Rattle.std.proofs.lemmas.List.{same_lists, places, drop-drop, drop-set-add}
use Rattle.std.proofs.lemmas.List.Elements.{same_from_all_zip}
use Rattle.std.specs.List.{AppendsClones}
use Rattle.std.specs.Prelude.{Result, Ok, Err, IsOk, IsErr}
use Rattle.std.specs.declared.clone.Clone as Clone
use Rattle.std.specs.declared.ops.Bound.{Bound}
use Rattle.tinyvec_slots.specs.Ranges.{IsRangeOf, range_start, range_end, items_within}
use Rattle.tinyvec_slots.specs.Slots.{Slots, items_in, len_in, spare_in, split_at}
use Rattle.tinyvec_slots.specs.Clones.{RefusedAt, ClonesAreEqual, ClonesOver, ClonesOverFrom, AddsClones}
use Rattle.tinyvec_slots.proofs.CloneLemmas.{range_before}
use Rattle.tinyvec_slots.proofs.ClonesOverLemmas.{all_granted}
use Rattle.tinyvec_slots.proofs.Lists.{length-slice_range, drop-put, drop-vacated, take-removed, drop-removed}

-- A vector's `len` may be more than there are slots. Then its list is all of them, and n below is how long the list is.
module _ {X : Type 0} (k : ℕ) (xs : List X) (n : ℕ) (is : n ≡ length (take k xs)) where
  pub list_to : take n xs ≡ take k xs
  list_to = same_lists _ _ (search (rules, places, is)) (λ i d h. grind (arith, places, is))

  pub spare_from : drop n xs ≡ drop k xs
  spare_from = same_lists _ _ (search (rules, places, is)) (λ i d h. grind (arith, places, is))

  -- with a spare slot it is the vector's `len`
  pub border : 0 < length (drop k xs) → n ≡ k
  border room = search (rules, places, is)

  pub within : n ≤ length xs
  within = search (rules, places, is)

  -- and there are more slots than the list has items
  pub beyond : 0 < length (drop k xs) → n < length xs
  beyond room = search (rules, places, is)

  -- behind an item that was put at the border lie the spare slots but for the first
  pub drop-pushed : (x : X) → drop (n + 1) (set xs n x) ≡ drop 1 (drop k xs)
  drop-pushed x = drop-put xs n x ∙ ap (drop 1) spare_from

  -- what the last item was replaced by stands before the spare slots
  pub drop-popped : (d : X) → 0 < n → drop (n - 1) (set xs (n - 1) d) ≡ d ∷ drop k xs
  drop-popped d pos = drop-vacated xs n d pos within ∙ ap (λ l. d ∷ l) spare_from

  -- the list that lost an item
  pub take-taken : (i : ℕ) (d : X) → i < n → take (n - 1) (remove (take n xs) i ++ d ∷ drop n xs) ≡ remove (take k xs) i
  take-taken i d lt = take-removed xs i n d lt within ∙ ap (λ l. remove l i) list_to

  -- what the list that lost an item leaves stands before the spare slots
  pub drop-taken : (i : ℕ) (d : X) → i < n → drop (n - 1) (remove (take n xs) i ++ d ∷ drop n xs) ≡ d ∷ drop k xs
  drop-taken i d lt = drop-removed xs i n d lt within ∙ ap (λ l. d ∷ l) spare_from

  -- the m spare slots from i on were written
  pub spare-put : (ds : List X) (i m : ℕ) → length ds ≡ m → i + m ≤ length (drop k xs)
      → drop k (take (n + i) xs ++ ds ++ drop (n + i + m) xs) ≡ take i (drop k xs) ++ ds ++ drop (i + m) (drop k xs)
  spare-put ds i m long le = same_lists _ _ (search (rules, places, is, long)) (λ j d h. grind (arith, places, is, long))

  -- a spare slot was written
  pub spare-set : (i : ℕ) (x : X) → i < length (drop k xs) → drop k (set xs (n + i) x) ≡ set (drop k xs) i x
  spare-set i x lt =
      let same : n ≡ k = search (rules, places, is) in
      ap (λ m. drop k (set xs (m + i) x)) same ∙ drop-set-add k xs i x

-- Clones of `more` were written over the n slots behind the first `len`.
module _ {T : Type 0} {C : T → T → Type 0} {len n : ℕ} {more xs new : List T} (fits : len ≤ length xs) (h : ClonesOverFrom C len more n xs new) where
  long : length (take len xs) ≡ len
  long = length-take-le len xs fits

  whole : new ≡ take len xs ++ (h.made ++ drop (len + n) xs)
  whole = h.written ∙ append_assoc (take len xs) h.made (drop (len + n) xs)

  pub kept_in_front : take len new ≡ take len xs
  kept_in_front = rw whole (take_at (take len xs) _ len long)

  pub clones_behind : ClonesOver C more n (drop len xs) (drop len new)
  clones_behind = record {
    made = h.made;
    clones = h.clones;
    count = h.count;
    written = rw (whole, drop_at (take len xs) (h.made ++ drop (len + n) xs) len long, drop-drop);
  }

  front : length (take len xs ++ h.made) ≡ len + n
  front = rw (length-append, long, h.count)

  listed : take (len + n) new ≡ take len xs ++ h.made
  listed = rw h.written (take_at (take len xs ++ h.made) (drop (len + n) xs) (len + n) front)

  -- a list that has these too
  pub clones_written : AppendsClones C (take len xs) (take (len + n) new) more
      × (length (take (len + n) new) ≡ length (take len xs) + n)
      × (ClonesAreEqual C → take (len + n) new ≡ take len xs ++ more)
      × (drop (len + n) new ≡ drop n (drop len xs))
  clones_written = (
    (h.made, listed, h.clones),
    rw (listed, length-append, h.count),
    λ rule. listed ∙ ap (λ l. take len xs ++ l) (same_from_all_zip C more h.made h.clones rule),
    rw (h.written, drop_at (take len xs ++ h.made) (drop (len + n) xs) (len + n) front, drop-drop),
  )

-- the items of a range, where they stand in slots
pub removed_in : {T : Type 0} (v : Slots T) (first last : Bound ℕ) (n i j : ℕ) → n ≡ len_in v → i ≡ range_start first → j ≡ range_end last n
    → IsRangeOf (items_in v) first last → (slice_range v.slots i j ≡ items_within (items_in v) first last) × (j - i ≡ length (items_within (items_in v) first last))
removed_in v first last n i j is start end range =
    let ends = end ∙ ap (range_end last) is in
    let le : i ≤ j = omega (arith, start, ends, range.0) in
    let inside : j ≤ n = omega (arith, ends, range.1, is) in
    let same : slice_range v.slots i j ≡ items_within (items_in v) first last = rw (← range_before v.slots i j n le inside, list_to v.len v.slots n is, start, ends) in
    (same, sym (length-slice_range v.slots i j le (omega (arith, inside, within v.len v.slots n is))) ∙ ap length same)

-- A call was to append clones of xs to a list of n items, and there is room.
module _ {T R E : Type 0} (g : Clone.Ghosts T) (v : Slots T) (n : ℕ) (is : n ≡ len_in v) (xs new : List T) (room : length xs ≤ length (spare_in v)) where
  pub clones_added : (r : Result R E) → IsOk r → ClonesOverFrom g.is_clone n xs (length xs) v.slots new → AddsClones g xs r v (split_at (n + length xs) new)
  clones_added (Err e) ok made = absurd (true≢false (sym ok))
  clones_added (Ok x) ok made =
      let list = list_to v.len v.slots n is in
      let written = rw list at (clones_written {xs = v.slots} (within v.len v.slots n is) made) in
      record {
        items = written.0;
        len = written.1;
        if_clones_equal = written.2;
        spare = written.3 ∙ ap (drop (length xs)) (spare_from v.len v.slots n is);
        kept = tt;
        refused = tt;
        succeeds = λ _. refl;
      }

  pub clones_not_added : (r : Result R E) → IsErr r → (j : ℕ) → RefusedAt g.is_infallible xs j
      → ClonesOverFrom g.is_clone n (take j xs) j v.slots new → AddsClones g xs r v (split_at v.len new)
  clones_not_added (Ok x) err j refused made = absurd (true≢false (sym err))
  clones_not_added (Err e) err j refused made =
      let below : j < length xs = refused.0 in
      let ends = border v.len v.slots n is (omega (arith, below, room)) in
      let fits = subst (λ k. k ≤ length v.slots) ends (within v.len v.slots n is) in
      let there = subst (λ k. ClonesOverFrom g.is_clone k (take j xs) j v.slots new) ends made in
      record {
        items = tt;
        len = tt;
        if_clones_equal = tt;
        spare = tt;
        kept = kept_in_front fits there;
        refused = (j, refused, clones_behind fits there);
        succeeds = λ all. absurd (all_granted g.is_infallible xs j all refused);
      }

-- of the list in the first n slots the elements from i up to j were replaced by `new`, and the later ones moved
module _ {X : Type 0} (k : ℕ) (xs : List X) (n : ℕ) (is : n ≡ length (take k xs)) (i j : ℕ) (new ys : List X) (m : ℕ) (le : i ≤ j) (inside : j ≤ n)
    (count : m ≡ n - (j - i) + length new) (fits : m ≤ length xs)
    (put : ys ≡ take i xs ++ new ++ slice_range xs j n ++ drop (i + length new + (n - j)) xs) where
  pub replaced_length : length ys ≡ length xs
  replaced_length = rw put (search (rules, places, is, count, fits))

  pub replaced_len : length (take k ys) ≡ n
  replaced_len = omega (arith, is, replaced_length, length-take k ys, length-take k xs)

  pub replaced_list : take m ys ≡ take i (take k xs) ++ new ++ drop j (take k xs)
  replaced_list = rw put (same_lists _ _ (search (rules, places, is, count, fits)) (λ e d h. grind (arith, places, is, count, fits)))

  pub replaced_shorter : m ≤ n → take m (take k ys) ≡ take i (take k xs) ++ new ++ drop j (take k xs)
  replaced_shorter few = rw put (same_lists _ _ (search (rules, places, is, count, fits)) (λ e d h. grind (arith, places, is, count, fits)))

  pub replaced_behind : m ≤ n → drop k ys ≡ drop k xs
  replaced_behind few = rw put (same_lists _ _ (search (rules, places, is, count, fits)) (λ e d h. grind (arith, places, is, count, fits)))

  pub replaced_longer : n ≤ m → drop m ys ≡ drop (m - n) (drop k xs)
  replaced_longer more = rw put (same_lists _ _ (search (rules, places, is, count, fits)) (λ e d h. grind (arith, places, is, count, fits)))
