-- Facts on parts of a list.
use Rattle.std.proofs.Common.{◌≡◌, ℕ, add-one, refl, ◌+◌, ◌-◌, ◌*◌, ◌<◌, ◌≤◌, min, List, [], ◌∷◌, ◌++◌, length, get_or, take, drop, set, insert, remove, slice_range, sym, ap, ◌∙◌, arith, rules, drop-set-lt, length-set, take_at, length-append}
use Rattle.std.proofs.lemmas.List.{same_lists, places, same_from_push, get_or-set_same, get_or_default, get_or-drop, drop-drop, drop_more, take_min, drop_min, take-set-le}
use Rattle.std.specs.List.{remove_range}
use Rattle.std.proofs.Math.Seq.{take-add}
use Rattle.std.proofs.lemmas.Slice.{between_is}
use lib.Seq.{paste}
use Rattle.std.proofs.lemmas.Bool.{cases_eq, cases_lt}

-- an element, where there is one
pub an_element : {X : Type 0} (xs : List X) (i : ℕ) → i < length xs → X
an_element [] i h = absurd (omega arith)
an_element (x ∷ xs) i h = x

module _ {X : Type 0} where
  -- behind an item that was put at n lie the others but for the first
  pub drop-put : (xs : List X) (n : ℕ) (x : X) → drop (n + 1) (set xs n x) ≡ drop 1 (drop n xs)
  drop-put xs n x = drop-set-lt (n + 1) xs n x (omega arith) ∙ sym (drop-drop 1 n xs)

  -- what the last item before n was replaced by stands before the items from n on
  pub drop-vacated : (xs : List X) (n : ℕ) (d : X) → 0 < n → n ≤ length xs → drop (n - 1) (set xs (n - 1) d) ≡ d ∷ drop n xs
  drop-vacated xs n d pos le = same_lists _ _ (search (rules, places)) (λ k e h. grind (arith, places, get_or-set_same, cases_eq k 0))

  -- what stands at i, as a list
  pub item_at : (xs : List X) (i : ℕ) (x : X) → i < length xs → x ≡ get_or xs i x → take 1 (drop i xs) ≡ x ∷ []
  item_at xs i x lt is = rw (drop_more xs i x lt, ← is)

  pub one_item : (xs : List X) (i j : ℕ) (x : X) → j ≡ i + 1 → i < length xs → x ≡ get_or xs i x → slice_range xs i j ≡ x ∷ []
  one_item xs i j x next lt is =
      let one : j - i ≡ 1 = omega (arith, next) in
      ap (λ n. take n (drop i xs)) one ∙ item_at xs i x lt is

  -- a range in two parts
  pub parted : (xs : List X) (i j k : ℕ) → i ≤ j → j ≤ k → slice_range xs i k ≡ slice_range xs i j ++ slice_range xs j k
  parted xs i j k low high =
      let whole : k - i ≡ j - i + (k - j) = omega arith in
      let there : i + (j - i) ≡ j = omega arith in
      rw (whole, take-add (j - i) (k - j) (drop i xs), drop-drop (j - i) i xs, there) refl

  -- the first item of a range, whose slot may be written then, and the items behind it
  pub slice_range_first : (xs : List X) (i j : ℕ) (x d : X) → i < j → j ≤ length xs
      → x ≡ get_or xs i x → slice_range xs i j ≡ x ∷ slice_range (set xs i d) (i + 1) j
  slice_range_first xs i j x d lt le is =
      rw (parted xs i (i + 1) j (omega arith) (omega arith), one_item xs i (i + 1) x refl (omega arith) is, drop-set-lt (i + 1) xs i d (omega arith)) refl

  -- the last one so, and those in front of it
  pub slice_range_last : (xs : List X) (i j : ℕ) (x d : X) → i < j → j ≤ length xs
      → x ≡ get_or xs (j - 1) x
      → slice_range xs i j ≡ slice_range (set xs (j - 1) d) i (j - 1) ++ x ∷ []
  slice_range_last xs i j x d lt le is =
      let others : slice_range xs i (j - 1) ≡ slice_range (set xs (j - 1) d) i (j - 1) =
      between_is xs i (j - 1) ∙ ap (drop i) (sym (take-set-le (j - 1) xs (j - 1) d (omega arith))) ∙ sym (between_is (set xs (j - 1) d) i (j - 1)) in
      parted xs i (j - 1) j (omega arith) (omega arith) ∙ ap (λ l. slice_range xs i (j - 1) ++ l) (one_item xs (j - 1) j x (omega arith) (omega arith) is)
      ∙ ap (λ l. l ++ x ∷ []) others

  -- what stands at i of lists that are one from i on
  pub same_at : (xs ys : List X) (i : ℕ) (d : X) → drop i xs ≡ drop i ys → get_or xs i d ≡ get_or ys i d
  same_at xs ys i d e =
      let zero : i + 0 ≡ i = omega arith in
      rw zero at (sym (get_or-drop i xs 0 d) ∙ ap (λ l. get_or l 0 d) e ∙ get_or-drop i ys 0 d)

  -- what lies from the written place on
  pub drop_from_set : (xs : List X) (j k : ℕ) (y : X) → 0 < j → j ≤ length xs → j ≡ k → drop (j - 1) (set xs (j - 1) y) ≡ y ∷ drop k xs
  drop_from_set xs j k y pos le same = drop-vacated xs j y pos le ∙ ap (λ n. y ∷ drop n xs) same

module _ {X : Type 0} (xs : List X) (i j : ℕ) (le : i ≤ j) (within : j ≤ length xs) where
  pub length-remove_range : length (remove_range xs i j) ≡ length xs - (j - i)
  length-remove_range = search (rules, places)

  pub length-slice_range : length (slice_range xs i j) ≡ j - i
  length-slice_range = search (rules, places)

  -- it was moved to the end: the others precede it
  module _ (ys : List X) (moved : ys ≡ remove_range xs i j ++ slice_range xs i j) where
    pub take-range_moved : (n : ℕ) → n + (j - i) ≡ length xs → take n ys ≡ remove_range xs i j
    take-range_moved n all = ap (take n) moved ∙ take_at (remove_range xs i j) (slice_range xs i j) n (length-remove_range ∙ omega (arith, all))

    pub length-range_moved : length ys ≡ length xs
    length-range_moved = ap length moved ∙ length-append (remove_range xs i j) (slice_range xs i j) ∙ omega (arith, length-remove_range, length-slice_range)

-- a range that is cut to the list
pub remove_range_within : {X : Type 0} (xs : List X) (start gap i n : ℕ) → i ≡ min start (length xs) → n ≡ min gap (length xs - i)
    → remove_range xs i (i + n) ≡ remove_range xs start (start + gap)
remove_range_within xs start gap i n first count =
    let end : i + n ≡ min (start + gap) (length xs) = omega (arith, first, count) in
    rw (end, drop_min (start + gap) xs, first, take_min start xs)

-- a write within a range changes no item beside it
pub remove_range-set : {X : Type 0} (xs : List X) (i j k : ℕ) (x : X) → i ≤ k → k < j → remove_range (set xs k x) i j ≡ remove_range xs i j
remove_range-set xs i j k x above below = rw (take-set-le i xs k x above, drop-set-lt j xs k x below)

-- one item was moved to the end: it is there, and the others are what is before it
module _ {X : Type 0} (xs ys : List X) (i : ℕ) (lt : i < length xs) (moved : ys ≡ remove_range xs i (i + 1) ++ slice_range xs i (i + 1)) where
  pub length-moved : length ys ≡ length xs
  length-moved = length-range_moved xs i (i + 1) (omega arith) (omega (arith, lt)) ys moved

  pub take-moved : take (length ys - 1) ys ≡ remove xs i
  take-moved =
      take-range_moved xs i (i + 1) (omega arith) (omega (arith, lt)) ys moved (length ys - 1) (omega (arith, length-moved, lt)) ∙ rw add-one refl

-- the first n elements changed places with the last ones
module _ {X : Type 0} (xs ys : List X) (n : ℕ) (fits : n ≤ length xs) (apart : n ≤ length xs - n)
    (swapped : ys ≡ drop (length xs - n) xs ++ slice_range xs n (length xs - n) ++ take n xs) where
  -- the rest stands in order once what came to the front is turned with it
  pub turned_in_front : (zs : List X) → zs ≡ drop n (take (length xs - n) ys) ++ take n (take (length xs - n) ys)
      → zs ++ drop (length xs - n) ys ≡ drop n xs ++ take n xs
  turned_in_front zs is = rw (is, swapped) (same_lists _ _ (search (rules, places)) (λ k e h. grind (arith, places)))

  -- where the last n were the whole rest
  pub turned_behind : (c : ℕ) → c ≡ length xs - n → (zs : List X)
      → zs ≡ drop (c - n) (take (length ys - n) (drop n ys)) ++ take (c - n) (take (length ys - n) (drop n ys))
      → take n ys ++ (zs ++ drop (length ys - n) (drop n ys)) ≡ drop c xs ++ take c xs
  turned_behind c same zs is = rw (is, swapped) (same_lists _ _ (search (rules, places)) (λ k e h. grind (arith, places)))

-- of the part of a list from i on the last b elements changed places with the first ones, which are in a gap of n
pub closed_by_ends : {X : Type 0} (xs part zs rest : List X) (i n b : ℕ) → i + n + b ≡ length xs → part ≡ drop i xs
    → zs ≡ drop (length part - b) part ++ slice_range part b (length part - b) ++ take b part
    → take (length xs - n) (take i xs ++ (zs ++ rest)) ≡ remove_range xs i (i + n)
closed_by_ends xs part zs rest i n b all is swapped = rw (swapped, is) (same_lists _ _ (search (rules, places)) (λ k e h. grind (arith, places)))

-- the length of a list with a range of it replaced
pub length-replaced : {X : Type 0} (start end : ℕ) (put old : List X) → start ≤ end → end ≤ length old
    → length (take start old ++ put ++ drop end old) ≡ length old - (end - start) + length put
length-replaced start end put old le inside = search (rules, places)

-- what is put in among the first n items moves the item behind them out
pub insert_over : {X : Type 0} (xs ys : List X) (i n : ℕ) (x y : X) → i ≤ n → n < length xs → ys ++ y ∷ [] ≡ insert (take (n + 1) xs) i x
    → ys ≡ insert (take n xs) i x
insert_over xs ys i n x y le lt is =
    let more : insert (take (n + 1) xs) i x ≡ insert (take n xs) i x ++ get_or xs n y ∷ [] =
    same_lists _ _ (search (rules, places)) (λ k e h. grind (arith, places, cases_lt k i, cases_eq k (n + 1), get_or_default xs n e y)) in
    (same_from_push ys (insert (take n xs) i x) y (get_or xs n y) (is ∙ more)).0

-- the first n but for one
pub take-removed : {X : Type 0} (xs : List X) (i n : ℕ) (d : X) → i < n → n ≤ length xs
    → take (n - 1) (remove (take n xs) i ++ d ∷ drop n xs) ≡ remove (take n xs) i
take-removed xs i n d lt le = same_lists _ _ (search (rules, places)) (λ k e h. grind (arith, places))

-- what one of the first n left behind, and the items behind them
pub drop-removed : {X : Type 0} (xs : List X) (i n : ℕ) (d : X) → i < n → n ≤ length xs
    → drop (n - 1) (remove (take n xs) i ++ d ∷ drop n xs) ≡ d ∷ drop n xs
drop-removed xs i n d lt le = same_lists _ _ (search (rules, places)) (λ k e h. grind (arith, places))

-- the same downwards
pub insert_shifted_down : {X : Type 0} (xs : List X) (i : ℕ) (x y : X) → i < length xs → y ≡ get_or xs i y
    → insert (set xs i x) i y ≡ insert xs (i + 1) x
insert_shifted_down xs i x y lt is =
    let long = length-set xs i x in
    same_lists _ _ (search (rules, places)) (λ k e h. grind (arith, places, get_or-set_same, cases_lt k i, cases_eq k i, cases_eq k (i + 1), get_or_default xs i e y))

-- what was put in at i is the item there, and the others are the list
pub insert_taken : {X : Type 0} (xs : List X) (i : ℕ) (x : X) → i ≤ length xs → x ≡ get_or (insert xs i x) i x
insert_taken xs i x le = grind (arith, places)

pub insert_removed : {X : Type 0} (xs : List X) (i : ℕ) (x : X) → i ≤ length xs → remove (insert xs i x) i ≡ xs
insert_removed xs i x le = same_lists _ _ (search (rules, places)) (λ k e h. grind (arith, places, cases_lt k i))

-- a run of elements was copied from one place of a list to another, block by block
module _ {X : Type 0} (xs ys zs : List X) (from to : ℕ) where
  pub moved_down : (i k : ℕ) → to ≤ from → from + i + k ≤ length xs → ys ≡ paste xs to (drop from xs) i
      → zs ≡ paste ys (to + i) (drop (from + i) ys) k → zs ≡ paste xs to (drop from xs) (i + k)
  moved_down i k down within first next = rw (next, first) (same_lists _ _ (search (rules, places)) (λ j d h. grind (arith, places)))

  pub moved_up : (n m l k : ℕ) → m ≡ l + k → from ≤ to → l + k ≤ n → to + n ≤ length xs
      → ys ≡ take (to + m) xs ++ drop m (take n (drop from xs)) ++ drop (to + n) xs
      → zs ≡ paste ys (to + l) (drop (from + l) ys) k → zs ≡ take (to + l) xs ++ drop l (take n (drop from xs)) ++ drop (to + n) xs
  moved_up n m l k all up within inside first next = rw (next, first, all) (same_lists _ _ (search (rules, places)) (λ j d h. grind (arith, places)))

-- a block was written over the part of a list from `at` on
pub written_front : {X : Type 0} (xs bs block part rest : List X) (at n : ℕ) → at + n ≤ length xs → length bs ≡ n → bs ≡ block
    → part ≡ bs ++ drop n (take (length xs - at) (drop at xs)) → rest ≡ drop (length xs - at) (drop at xs) → take at xs ++ (part ++ rest) ≡ paste xs at block n
written_front xs bs block part rest at n within long same is none = rw (none, is, ← same) (same_lists _ _ (search (rules, places, long)) (λ j d h. grind (arith, places, long)))

-- a run of elements was copied by its first n and its last n
pub moved_ends : {X : Type 0} (xs ys zs : List X) (from to count n : ℕ) → n ≤ count → count ≤ 2 * n → from + count ≤ length xs → to + count ≤ length xs
    → ys ≡ paste xs to (take n (drop from xs)) n → zs ≡ paste ys (to + (count - n)) (take n (drop (from + (count - n)) xs)) n → zs ≡ paste xs to (drop from xs) count
moved_ends xs ys zs from to count n enough no_gap inside within first last = rw (last, first) (same_lists _ _ (search (rules, places)) (λ j d h. grind (arith, places)))
