-- What one number more does to the largest of a list.
use Rattle.std.proofs.Common.{◌≡◌, ℕ, ◌+◌, ◌<◌, ◌≤◌, min, List, [], ◌∷◌, ◌++◌, length, get_or, arith, append_assoc, length-append}
use Rattle.std.specs.List.{insert, remove}
use Rattle.std.specs.List.Sorted.{IsNonDecreasing}
use Rattle.std.proofs.lemmas.List.Edits.{length-insert, length-remove, get_or-insert_below, get_or-insert_at, get_or-insert_above, get_or-remove_above}
use Rattle.std.proofs.lemmas.List.Elements.{All-append, All-cons, All-nil, All-from_get_or}
use Rattle.std.proofs.lemmas.List.Sorted.{IsPermutation-push_more, IsPermutation-trans, IsPermutation-sym, IsPermutation-middle, IsPermutation-append_right, IsPermutation-insert, IsPermutation-remove, IsNonDecreasingBy-insert, IsNonDecreasingBy-drop, length_permutation}
use Rattle.tinyvec_examples.specs.Largest.{HoldsLargest, IsFloor, IsPlace}

-- a list keeps its largest numbers, of which one was added and maybe the least dropped
pub one_more : (limit n : ℕ) (numbers top more : List ℕ) → length top ≡ min limit (length numbers)
    → HoldsLargest numbers top → HoldsLargest (n ∷ top) more
    → (length top ≡ limit → (m : ℕ) → IsFloor m top → IsFloor m more)
    → HoldsLargest (numbers ++ n ∷ []) more
one_more limit n numbers top more count was now floor =
    let size = length_permutation _ _ was.moved in
    let parts = length-append was.others top in
    record {
      others = was.others ++ now.others;
      moved = IsPermutation-push_more numbers (was.others ++ top) _ n was.moved
          (rw append_assoc (IsPermutation-trans _ _ _ (IsPermutation-sym _ _ (IsPermutation-middle was.others n top))
          (IsPermutation-append_right was.others (n ∷ top) (now.others ++ more) now.moved)));
      below = All-append (λ x. IsFloor x more) was.others now.others
          (λ k d inside. floor (omega arith) _ (was.below k d inside)) now.below;
    }

-- the first of an ascending list is its least
lowest : (ys : List ℕ) (x : ℕ) → 0 < length ys → x ≡ get_or ys 0 x → IsNonDecreasing ys → IsFloor x (remove ys 0)
lowest ys x some is up = All-from_get_or (λ y. x ≤ y) (remove ys 0) x (λ k inside.
    let size = length-remove ys 0 some in
    let read = get_or-remove_above ys 0 x k (omega arith) some in
    let order : get_or ys 0 x ≤ get_or ys (k + 1) x = up 0 (k + 1) x (omega arith) (omega arith) in
    omega arith)

-- what is below a list is below what is left of it and a number, without the least
floor_stays : (xs : List ℕ) (n at m : ℕ) → IsPlace xs n at → IsFloor m xs → IsFloor m (remove (insert xs at n) 0)
floor_stays xs n at m place floor =
    let grown = length-insert xs at n place.within in
    let some : 0 < length (insert xs at n) = omega arith in
    All-from_get_or (λ y. m ≤ y) (remove (insert xs at n) 0) 0 (λ k inside.
    let size = length-remove (insert xs at n) 0 some in
    let read = get_or-remove_above (insert xs at n) 0 0 k (omega arith) some in
    let before : k + 1 < at → m ≤ get_or (insert xs at n) (k + 1) 0 = λ less.
    let same = get_or-insert_below xs at n 0 (k + 1) less place.within in
    let low : m ≤ get_or xs (k + 1) 0 = floor (k + 1) 0 (omega arith) in
    omega arith in
    let here : k + 1 ≡ at → m ≤ get_or (insert xs at n) (k + 1) 0 = λ is.
    let same = get_or-insert_at xs at n 0 place.within in
    let low : m ≤ get_or xs 0 0 = floor 0 0 (omega arith) in
    let over : get_or xs 0 0 ≤ n = place.below 0 0 (omega arith) in
    rw is (omega arith) in
    let after : at ≤ k → m ≤ get_or (insert xs at n) (k + 1) 0 = λ more.
    let same = get_or-insert_above xs at n 0 k more place.within in
    let low : m ≤ get_or xs k 0 = floor k 0 (omega arith) in
    omega arith in
    grind arith)

-- a number was put into a list
pub all_kept : (xs ys : List ℕ) (n at : ℕ) → IsPlace xs n at → IsNonDecreasing xs → ys ≡ insert xs at n
    → IsNonDecreasing ys × HoldsLargest (n ∷ xs) ys
all_kept xs ys n at place up grown = rw grown (
  IsNonDecreasingBy-insert (λ x. x) xs at n up place.within place.below place.above,
  record { others = []; moved = IsPermutation-insert xs at n; below = All-nil (λ x. IsFloor x (insert xs at n)) },
)

-- and the least dropped
pub least_dropped : (xs ys zs : List ℕ) (n at x : ℕ) → IsPlace xs n at → IsNonDecreasing xs → ys ≡ insert xs at n
    → x ≡ get_or ys 0 x → zs ≡ remove ys 0
    → IsNonDecreasing zs × HoldsLargest (n ∷ xs) zs × ((m : ℕ) → IsFloor m xs → IsFloor m zs)
unfolding all_kept
least_dropped xs ys zs n at x place up grown is cut =
    let all = all_kept xs ys n at place up grown in
    let size = length-insert xs at n place.within in
    let some : 0 < length ys = rw grown (omega arith) in
    rw cut (
      IsNonDecreasingBy-drop (λ x. x) 1 ys all.0,
      record {
        others = x ∷ [];
        moved = IsPermutation-trans _ _ _ all.1.moved (IsPermutation-remove ys 0 x some is);
        below = All-cons (λ y. IsFloor y (remove ys 0)) x [] (lowest ys x some is all.0) (All-nil (λ y. IsFloor y (remove ys 0)));
      },
      λ m floor. rw grown (floor_stays xs n at m place floor),
    )
