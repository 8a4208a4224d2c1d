-- Lemmas on clones written over slots.
use Rattle.std.proofs.Common.{◌≡◌, ℕ, ◌+◌, ◌-◌, ◌<◌, ◌≤◌, List, [], ◌∷◌, ◌++◌, length, take, drop, set, get_or, slice_range, sym, ap, ◌∙◌, arith, append_assoc, length-take-le, length-append, length-drop, take-append-drop, Result, Ok, Err, OnErr}
use Rattle.std.proofs.lemmas.Slice.{between_is}
use Rattle.std.proofs.lemmas.List.Elements.{same_from_all_zip, length_all_zip}
use Rattle.std.specs.List.{AllZip}
use Rattle.tinyvec_slots.specs.Clones.{AreClones}
use Rattle.std.proofs.lemmas.List.{drop_more, set_at, drop-drop, drop-append-le, take-take, take_at, drop_at}
use Rattle.std.proofs.Math.Seq.{take-append-add}
use Rattle.tinyvec_slots.specs.Slots.{Slots, SlotRule, all_slots, items_in, spare_in, split_at}
use Rattle.tinyvec_slots.proofs.SlotsLemmas.{slots_used}
use borrow.Rule.Slice.PartMut.{post_of}

-- what holds at all holds of an error
pub on_err : {X E P : Type 0} (r : Result X E) → P → OnErr r P
on_err (Ok x) p = tt
on_err (Err e) p = p

module _ {X : Type 0} where
  -- one more write behind those that were made
  pub set_next : (xs ys : List X) (i : ℕ) (y : X) → length xs ≡ i → i < length ys
      → set (xs ++ drop i ys) i y ≡ (xs ++ y ∷ []) ++ drop (i + 1) ys
  set_next xs ys i y long lt = rw (drop_more ys i y lt, set_at xs (get_or ys i y) (drop (i + 1) ys) y i long, append_assoc)

  pub length-part : (xs : List X) (a k : ℕ) → a + k ≤ length xs → length (take k (drop a xs)) ≡ k
  length-part xs a k fits = length-take-le k (drop a xs) (omega (arith, length-drop a xs))

  -- what j writes at the front of the k slots from a on leave of all the slots, which were `seen` before the call
  pub written_part : (xs seen ws new : List X) (a k j : ℕ) → xs ≡ seen → new ≡ ws ++ drop j (take k (drop a xs)) → j ≤ k → a + k ≤ length xs
      → take a xs ++ (new ++ post_of a k xs) ≡ take a seen ++ ws ++ drop (a + j) seen
  written_part xs seen ws new a k j same is le fits =
      let long = length-part xs a k fits in
      rw (is, ← same, append_assoc, append_assoc, ← drop-append-le j (take k (drop a xs)) (drop k (drop a xs)) (omega arith), take-append-drop, drop-drop)

  -- a range does not see what lies behind its end
  pub range_before : (xs : List X) (i j m : ℕ) → i ≤ j → j ≤ m → slice_range (take m xs) i j ≡ slice_range xs i j
  range_before xs i j m le within = rw (between_is (take m xs) i j, between_is xs i j, take-take j m xs within)

  -- a list that starts with j writes, cut to no fewer
  pub take_writes : (ws xs : List X) (j m : ℕ) → length ws ≡ j → j ≤ m → take m (ws ++ drop j xs) ≡ ws ++ slice_range xs j m
  take_writes ws xs j m long le =
      let more : m ≡ length ws + (m - j) = omega arith in
      ap (λ n. take n (ws ++ drop j xs)) more ∙ take-append-add ws (drop j xs) (m - j)

  -- and cut to fewer
  pub drop_writes : (ws xs : List X) (j m : ℕ) → length ws ≡ j → m ≤ j → drop m (ws ++ drop j xs) ≡ drop m ws ++ drop (j - m) (drop m xs)
  drop_writes ws xs j m long le =
      let ends : m + (j - m) ≡ j = omega arith in
      rw (drop-append-le m ws (drop j xs) (omega arith), drop-drop, ends)

-- a list that was made longer by writes over its spare slots
module _ {T : Type 0} (old : Slots T) (ws xs : List T) (n : ℕ) (fits : old.len ≤ length (all_slots old)) (ends : old.len + length ws ≡ n)
    (is : xs ≡ items_in old ++ ws ++ drop n (all_slots old)) where
  front : length (items_in old ++ ws) ≡ n
  front = length-append (items_in old) ws ∙ ap (λ k. k + length ws) (length-take-le old.len (all_slots old) fits) ∙ ends

  pub grown_items : take n xs ≡ items_in old ++ ws
  grown_items = rw (is, take_at (items_in old ++ ws) (drop n (all_slots old)) n front)

  pub grown : (D : T → Type 0) → SlotRule D old (split_at n xs)
  grown D =
      let behind : drop n xs ≡ drop (length ws) (spare_in old) = rw (is, drop_at (items_in old ++ ws) (drop n (all_slots old)) n front, drop-drop, ends) in
      slots_used D old (split_at n xs) (length ws) (ap length grown_items ∙ length-append (items_in old) ws) behind

-- from the clones of a list follow their number and what they equal
pub are_clones : {T : Type 0} (C : T → T → Type 0) (xs ys : List T) → AllZip C xs ys → AreClones C xs ys
are_clones C xs ys h = record {
  each = h;
  len = sym (length_all_zip C xs ys h);
  if_clones_equal = same_from_all_zip C xs ys h;
}
