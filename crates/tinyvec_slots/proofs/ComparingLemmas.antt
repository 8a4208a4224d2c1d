-- Equality of lists, part by part.
use Rattle.std.proofs.Common.{◌≡◌, ℕ, Option, Some, None, true≢false, min, suc, zero, ◌+◌, ◌-◌, ◌%◌, ◌<◌, ◌≤◌, Bool, true, false, ◌&&◌, List, [], ◌∷◌, ◌++◌, length, length-drop, length-take-le, get_or, take, drop, refl, sym, ◌∙◌, ap, arith, rules}
use Rattle.std.specs.Bool.{Decides}
use Rattle.std.specs.Cmp.{Equal-is, first_so, second_so}
use Rattle.std.specs.Prelude.{unwrap_or}
use Rattle.std.specs.Cmp.Lexicographic.{pointwise, slice_cmp, slice_partial_cmp, lists_agrees}
use Rattle.tinyvec_slots.specs.Comparing.{FirstDifference, DiffersAt}
use Rattle.std.specs.Ordering.{eq_by_cmp, nat_cmp, partial_ordering_then}
use Rattle.std.specs.declared.cmp.Ordering.{Ordering}
use Rattle.std.specs.declared.cmp.Ordering.TheVariants.{Less, Equal, Greater}
use Rattle.std.proofs.lemmas.List.{take_more, take-append-drop, take_all, take_rest, get_or-take}
use Rattle.std.proofs.Math.Seq.{take-add}
use Rattle.std.proofs.Math.Nat.{mod-eq-sub-mod}
use Rattle.std.proofs.lemmas.Nat.Gcd.{dvd_of_mod-eq-zero, le_of_dvd}

and_assoc : (a b c : Bool) → (a && b) && c ≡ a && (b && c)
and_assoc true b c = refl
and_assoc false b c = refl

and_true : (a : Bool) → a && true ≡ a
and_true true = refl
and_true false = refl

-- what is left consists of blocks of n, so there is one
pub block_fits : (n left : ℕ) → left % n ≡ 0 → 0 < left → n ≤ left
block_fits n left blocks some = le_of_dvd some (dvd_of_mod-eq-zero n blocks)

-- and what is left behind it consists of blocks too
pub blocks_behind : (n done len : ℕ) → (len - done) % n ≡ 0 → n ≤ len - done → (len - (done + n)) % n ≡ 0
blocks_behind n done len blocks fits =
    let e : len - (done + n) ≡ len - done - n = omega arith in
    rw e (sym (mod-eq-sub-mod fits) ∙ blocks)

module _ {T : Type 0} (E : T → T → Bool) where
  -- lists that are as long in front
  pointwise_append : (xs ys more others : List T) → length xs ≡ length ys
      → pointwise E (xs ++ more) (ys ++ others) ≡ pointwise E xs ys && pointwise E more others
  pointwise_append [] [] more others e = refl
  pointwise_append (x ∷ xs) (y ∷ ys) more others e =
      ap (λ b. E x y && b) (pointwise_append xs ys more others (omega arith)) ∙ sym (and_assoc (E x y) _ _)
  pointwise_append [] (y ∷ ys) more others e = absurd (omega arith)
  pointwise_append (x ∷ xs) [] more others e = absurd (omega arith)

  -- the first n items, and the others
  pub pointwise_split : (n : ℕ) (xs ys : List T) → n ≤ length xs → n ≤ length ys
      → pointwise E xs ys ≡ pointwise E (take n xs) (take n ys) && pointwise E (drop n xs) (drop n ys)
  pointwise_split n xs ys h k =
      (λ i. pointwise E (sym (take-append-drop n xs) i) (sym (take-append-drop n ys) i))
      ∙ pointwise_append (take n xs) (take n ys) (drop n xs) (drop n ys) (length-take-le n xs h ∙ sym (length-take-le n ys k))

  -- one pair more
  pub pointwise_take : (i : ℕ) (xs ys : List T) (x y : T) → i < length xs → i < length ys → x ≡ get_or xs i x → y ≡ get_or ys i y
      → pointwise E (take (i + 1) xs) (take (i + 1) ys) ≡ pointwise E (take i xs) (take i ys) && E x y
  pointwise_take i xs ys x y h k ex ey =
      let long = length-take-le i xs (omega arith) ∙ sym (length-take-le i ys (omega arith)) in
      rw (take_more xs i x h, take_more ys i y k, ← ex, ← ey, pointwise_append (take i xs) (take i ys) (x ∷ []) (y ∷ []) long, and_true (E x y))

  -- i items are equal, and n more
  pub pointwise_more : (i n : ℕ) (xs ys : List T) → length xs ≡ length ys → i ≤ length xs
      → pointwise E (take i xs) (take i ys) ≡ true
      → pointwise E (take n (take (length xs - i) (drop i xs))) (take n (take (length ys - i) (drop i ys))) ≡ true
      → pointwise E (take (i + n) xs) (take (i + n) ys) ≡ true
  pointwise_more i n xs ys long within h e =
      let w : i ≤ length ys = rw (← long) within in
      let f : pointwise E (take n (drop i xs)) (take n (drop i ys)) ≡ true = rw (take_rest xs i, take_rest ys i) at e in
      let k : length (take i xs) ≡ length (take i ys) = length-take-le i xs within ∙ sym (length-take-le i ys w) in
      rw (take-add i n xs, take-add i n ys, pointwise_append (take i xs) (take i ys) (take n (drop i xs)) (take n (drop i ys)) k, h, f)

  -- the first i items are equal, so the others decide
  pub pointwise_rest : (i : ℕ) (xs ys : List T) → length xs ≡ length ys → i ≤ length xs
      → pointwise E (take i xs) (take i ys) ≡ true
      → pointwise E (take (length xs - i) (drop i xs)) (take (length ys - i) (drop i ys)) ≡ pointwise E xs ys
  pointwise_rest i xs ys long within h =
      let w : i ≤ length ys = rw (← long) within in
      rw (take_rest xs i, take_rest ys i, pointwise_split i xs ys within w, h)

  -- the first n items are not all equal
  pub pointwise_front : (n : ℕ) (xs ys : List T) → n ≤ length xs → length xs ≡ length ys
      → pointwise E (take n xs) (take n ys) ≡ false → pointwise E xs ys ≡ false
  pointwise_front n xs ys within long h =
      let w : n ≤ length ys = rw (← long) within in
      rw (pointwise_split n xs ys within w, h)

  -- the n items behind the first i are not all equal
  pub pointwise_behind : (i n : ℕ) (xs ys : List T) → length xs ≡ length ys → i ≤ length xs → n ≤ length xs - i
      → pointwise E (take i xs) (take i ys) ≡ true
      → pointwise E (take n (take (length xs - i) (drop i xs))) (take n (take (length ys - i) (drop i ys))) ≡ false
      → pointwise E xs ys ≡ false
  pointwise_behind i n xs ys long within more same h =
      let w : i ≤ length ys = rw (← long) within in
      let f : pointwise E (take n (drop i xs)) (take n (drop i ys)) ≡ false = rw (take_rest xs i, take_rest ys i) at h in
      let m : n ≤ length (drop i xs) = rw (length-drop i xs) more in
      let l : length (drop i xs) ≡ length (drop i ys) = rw (length-drop i xs, length-drop i ys, long) refl in
      rw (pointwise_split i xs ys within w, same) (pointwise_front n (drop i xs) (drop i ys) m l f)

  pub first_of : (n m : ℕ) (xs ys : List T) → m ≡ min (length xs) (length ys) → DiffersAt E xs ys n
      → FirstDifference E (take m xs) (take m ys) m n
  first_of n m xs ys e first = rw e first

  -- the first pair that is not equal is x and y
  pub unlike_at : (n m : ℕ) (xs ys : List T) (x y : T) → FirstDifference E (take m xs) (take m ys) m n
      → n < m → x ≡ get_or xs n x → y ≡ get_or ys n y → E x y ≡ false
  unlike_at n m xs ys x y first l ex ey =
      first.2 l x y (ex ∙ sym (get_or-take m xs n x l)) (ey ∙ sym (get_or-take m ys n y l))

  -- all of them are equal
  pub alike_all : (n m : ℕ) (xs ys : List T) → FirstDifference E (take m xs) (take m ys) m n
      → m ≤ n → m ≤ length xs → m ≤ length ys → pointwise E (take m xs) (take m ys) ≡ true
  alike_all n m xs ys first l h k =
      rw (take_all n (take m xs) (omega (arith, l, length-take-le m xs h)), take_all n (take m ys) (omega (arith, l, length-take-le m ys k))) at first.1

  -- the first n of the first m pairs are equal
  abbrev pub SameOf : ℕ → ℕ → List T → List T → Type 0
  SameOf n m xs ys = pointwise E (take n (take m xs)) (take n (take m ys)) ≡ true

  -- of the first m pairs the first that is not equal is x and y, so it decides the order
  module _ {C : T → T → Option Ordering} (level : (x y : T) → Decides (E x y) (C x y ≡ Some Equal)) where
    decides : (x y : T) (r rest : Option Ordering) → C x y ≡ r → E x y ≡ false → partial_ordering_then r rest ≡ r
    decides x y None rest e u = refl
    decides x y (Some Less) rest e u = refl
    decides x y (Some Greater) rest e u = refl
    decides x y (Some Equal) rest e u = absurd (true≢false (sym ((level x y).1 e) ∙ u))

    pub partial_order_at : (n m : ℕ) (xs ys : List T) (x y : T) → n < m → m ≤ length xs → m ≤ length ys → SameOf n m xs ys
        → x ≡ get_or xs n x → y ≡ get_or ys n y → E x y ≡ false → C x y ≡ slice_partial_cmp C xs ys
    partial_order_at zero m (p ∷ xs) (q ∷ ys) x y l h k e ex ey u =
        sym (decides x y (C x y) (slice_partial_cmp C xs ys) refl u) ∙ (λ i. partial_ordering_then (C (ex i) (ey i)) (slice_partial_cmp C xs ys))
    partial_order_at (suc n) (suc m) (p ∷ xs) (q ∷ ys) x y l h k e ex ey u =
        let same = (level p q).0 (first_so (E p q) (pointwise E (take n (take m xs)) (take n (take m ys))) e) in
        let others = second_so (E p q) (pointwise E (take n (take m xs)) (take n (take m ys))) e in
        rw same (partial_order_at n m xs ys x y (omega arith) (omega arith) (omega arith) others ex ey u)
    partial_order_at zero m [] ys x y l h k e ex ey u = absurd (omega arith)
    partial_order_at zero m (p ∷ xs) [] x y l h k e ex ey u = absurd (omega arith)
    partial_order_at (suc n) zero xs ys x y l h k e ex ey u = absurd (omega arith)
    partial_order_at (suc n) (suc m) [] ys x y l h k e ex ey u = absurd (omega arith)
    partial_order_at (suc n) (suc m) (p ∷ xs) [] x y l h k e ex ey u = absurd (omega arith)

    -- all pairs are equal, so the lengths decide
    pub partial_order_long : (m : ℕ) (xs ys : List T) → m ≡ min (length xs) (length ys) → pointwise E (take m xs) (take m ys) ≡ true
        → Some (nat_cmp (length xs) (length ys)) ≡ slice_partial_cmp C xs ys
    partial_order_long m [] [] e same = refl
    partial_order_long m [] (q ∷ ys) e same = search rules
    partial_order_long m (p ∷ xs) [] e same = search rules
    partial_order_long zero (p ∷ xs) (q ∷ ys) e same = absurd (omega (arith, e))
    partial_order_long (suc m) (p ∷ xs) (q ∷ ys) e same =
        let now = (level p q).0 (first_so (E p q) (pointwise E (take m xs) (take m ys)) same) in
        let next : nat_cmp (suc (length xs)) (suc (length ys)) ≡ nat_cmp (length xs) (length ys) = search rules in
        rw (now, next) (partial_order_long m xs ys (omega (arith, e)) (second_so (E p q) (pointwise E (take m xs) (take m ys)) same))

  -- the same where each pair has an order
  module _ (R : T → T → Ordering) (ties : (x y : T) → E x y ≡ eq_by_cmp R x y) where
    inside : (r s : Ordering) → Some r ≡ Some s → r ≡ s
    inside r s e = ap (λ p. unwrap_or p Equal) e

    some_level : (x y : T) → Decides (E x y) (Some (R x y) ≡ Some Equal)
    some_level x y = (λ e. ap Some ((Equal-is (R x y)).0 (sym (ties x y) ∙ e)), λ e. ties x y ∙ (Equal-is (R x y)).1 (inside (R x y) Equal e))

    pub order_at : (n m : ℕ) (xs ys : List T) (x y : T) → n < m → m ≤ length xs → m ≤ length ys → SameOf n m xs ys
        → x ≡ get_or xs n x → y ≡ get_or ys n y → E x y ≡ false → R x y ≡ slice_cmp R xs ys
    order_at n m xs ys x y l h k e ex ey u = inside _ _ (partial_order_at some_level n m xs ys x y l h k e ex ey u ∙ lists_agrees {R = R} (λ p q. refl) xs ys)

    pub order_long : (m : ℕ) (xs ys : List T) → m ≡ min (length xs) (length ys) → pointwise E (take m xs) (take m ys) ≡ true
        → nat_cmp (length xs) (length ys) ≡ slice_cmp R xs ys
    order_long m xs ys e same = inside _ _ (partial_order_long some_level m xs ys e same ∙ lists_agrees {R = R} (λ p q. refl) xs ys)
