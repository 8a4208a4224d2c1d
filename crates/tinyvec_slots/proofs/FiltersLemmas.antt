-- The loops that keep some items in the front of a slice: what a contract says of all items holds of those that were shown so far.
use Rattle.std.proofs.Common.{◌≡◌, ℕ, suc, ◌+◌, ◌-◌, ◌<◌, ◌≤◌, Bool, true, false, cond, List, [], ◌∷◌, ◌++◌, append-nil, append_assoc, length, get_or, set, take, drop, swap, refl, sym, ap, ◌∙◌, subst, arith, rules, length-set, drop-set-lt, take_all, MatchBool}
use Rattle.std.proofs.Common.{length-take}
use Rattle.std.proofs.Math.Seq.{take-add}
use Rattle.std.proofs.lemmas.Bool.{cases_eq}
use Rattle.std.proofs.lemmas.Grind.{drop_more_same, common_steps}
use Rattle.std.proofs.lemmas.List.{same_lists, places, same_from_push, get_or-set_same, set-get_or, take-set-le, take_more, take_more_set}
use Rattle.std.specs.List.{items_where_true}
use Rattle.std.specs.List.Retain.{RetainsInTurn, IsFiltered, DedupsFrom, DedupsAll, IsDeduped}
use Rattle.tinyvec_slots.proofs.Lists.{item_at}
use Rattle.tinyvec_slots.specs.Filters.{AsksPair, RetainsTo, IsFilteredTo, DedupsFromTo, DedupsAllTo, IsDedupedTo}

-- W holds of the first i items of xs and of the k that stay of them, which stand in front of ys. The others were not shown yet.
pub record Shown {X : Type 0} (W : List X → List X → Type 0) (xs ys : List X) (k i : ℕ) : Type 0 where
  pub so_far : W (take i xs) (take k ys)
  pub later : drop i ys ≡ drop i xs

module _ {X : Type 0} where
  -- a write of what stands there
  pub rewritten : (xs : List X) (i : ℕ) (x : X) → x ≡ get_or xs i x → xs ≡ set xs i x
  rewritten xs i x is = sym (ap (set xs i) is ∙ set-get_or xs i x)

  module _ (W : List X → List X → Type 0) (xs ys : List X) (k i : ℕ) (h : Shown W xs ys k i) where
    pub all_shown : length xs ≤ i → W xs (take k ys)
    all_shown all = rw (take_all i xs all) at h.so_far

    -- a turn shows the item x at i of ys and leaves zs
    shown_more : (V : List X → List X → Type 0) (zs : List X) (j : ℕ) (x : X) → i < length ys → x ≡ get_or ys i x
        → drop (i + 1) zs ≡ drop (i + 1) ys → ((us : List X) → W us (take k ys) → V (us ++ x ∷ []) (take j zs)) → Shown V xs zs j (i + 1)
    shown_more V zs j x lt is behind turn =
        let one : take 1 (drop i xs) ≡ x ∷ [] = ap (take 1) (sym h.later) ∙ item_at ys i x lt is in record {
          so_far = rw (take-add i 1 xs, one) (turn (take i xs) h.so_far);
          later = behind ∙ drop_more_same ys xs i h.later;
        }

-- the items at k and at i behind it change places
module _ {X : Type 0} (xs : List X) (k i : ℕ) (le : k ≤ i) (lt : i < length xs) where
  pub swap_behind : drop (i + 1) (swap xs k i) ≡ drop (i + 1) xs
  swap_behind = grind (arith, common_steps)

  pub swap_before : take k (swap xs k i) ≡ take k xs
  swap_before = grind (arith, common_steps)

  pub swap_front : take (k + 1) (swap xs k i) ≡ take k xs ++ take 1 (drop i xs)
  swap_front = grind (arith, common_steps)

module _ {S X : Type 0} (R : S → X → Bool → S → X → Type 0) where
  in_front : (b : Bool) (y : X) (ys more : List X) → cond b (y ∷ ys) ys ++ more ≡ cond b (y ∷ (ys ++ more)) (ys ++ more)
  in_front true y ys more = refl
  in_front false y ys more = refl

  -- one more question
  asked_more : (s t u : S) (xs ys : List X) (x y : X) (b : Bool) → RetainsTo R s xs ys t → R t x b u y → RetainsTo R s (xs ++ x ∷ []) (ys ++ cond b (y ∷ []) []) u
  asked_more s t u [] ys x y b h asked = (b, u, y, subst (λ v. R v x b u y) h.1 asked, [], (refl, refl), ap (λ l. l ++ cond b (y ∷ []) []) h.0)
  asked_more s t u (z ∷ xs) ys x y b (c, v, w, first, zs, rest, is) asked = (
    c,
    v,
    w,
    first,
    zs ++ cond b (y ∷ []) [],
    asked_more v t u xs zs x y b rest asked,
    ap (λ l. l ++ cond b (y ∷ []) []) is ∙ in_front c w zs (cond b (y ∷ []) []),
  )

  -- a turn at i, with k items kept so far: the question left ls, where x became y, and the list was then moved to zs
  module _ (s t u : S) (xs ys ls zs : List X) (k i : ℕ) (x y : X) (le : k ≤ i) (lt : i < length ys) (is : x ≡ get_or ys i x)
      (left : ls ≡ set ys i y) (behind : drop (i + 1) zs ≡ drop (i + 1) ls) (h : Shown (λ us vs. RetainsTo R s us vs t) xs ys k i) where
    turned : (j : ℕ) (b : Bool) → take j zs ≡ take k ys ++ cond b (y ∷ []) [] → R t x b u y → Shown (λ us vs. RetainsTo R s us vs u) xs zs j (i + 1)
    turned j b front asked =
        shown_more _ xs ys k i h _ zs j x lt is (behind ∙ ap (drop (i + 1)) left ∙ drop-set-lt (i + 1) ys i y (omega arith))
        (λ us so_far. rw front (asked_more s t u us (take k ys) x y b so_far asked))

    before : take k ls ≡ take k ys
    before = ap (take k) left ∙ take-set-le k ys i y le

    there : take 1 (drop i ls) ≡ y ∷ []
    there = ap (λ l. take 1 (drop i l)) left ∙ item_at (set ys i y) i y (omega (arith, length-set ys i y)) (sym (get_or-set_same ys i y y lt))

    pub keeps_item : take (k + 1) zs ≡ take k ls ++ take 1 (drop i ls) → R t x true u y → Shown (λ us vs. RetainsTo R s us vs u) xs zs (k + 1) (i + 1)
    keeps_item moved = turned (k + 1) true (rw (before, there) at moved)

    pub drops_item : take k zs ≡ take k ls → R t x false u y → Shown (λ us vs. RetainsTo R s us vs u) xs zs k (i + 1)
    drops_item same = turned k false (same ∙ before ∙ sym (append-nil (take k ys)))

  -- what is said with the last state holds without it
  pub RetainsTo-in_turn : (last s : S) (xs ys : List X) → RetainsTo R s xs ys last → RetainsInTurn R s xs ys
  RetainsTo-in_turn last s [] ys h = h.0
  RetainsTo-in_turn last s (x ∷ xs) ys h = (h.0, h.1, h.2, h.3, h.4, RetainsTo-in_turn last h.1 xs h.4 h.5, h.6)

module _ {S X : Type 0} (R : S → X → Bool → S → Type 0) where
  -- a question that leaves the item as it was
  abbrev pub OnlyAsks : S → X → Bool → S → X → Type 0
  OnlyAsks s x b t y = R s x b t × (y ≡ x)

  chosen : (b : Bool) (bs : List Bool) (x y : X) (xs ys zs : List X) → ys ≡ cond b (y ∷ zs) zs → y ≡ x → zs ≡ items_where_true bs xs
      → ys ≡ items_where_true (b ∷ bs) (x ∷ xs)
  chosen true bs x y xs ys zs is same rest = is ∙ ap (λ z. z ∷ zs) same ∙ ap (λ l. x ∷ l) rest
  chosen false bs x y xs ys zs is same rest = is ∙ rest

  -- then what stays is the items that were answered with `true`
  pub filtered_to : (last s : S) (xs ys : List X) → RetainsTo OnlyAsks s xs ys last → IsFilteredTo R s xs ys last
  filtered_to last s [] ys h = ([], refl, sym h.1, h.0)
  filtered_to last s (x ∷ xs) ys h =
      let rest = filtered_to last h.1 xs h.4 h.5 in (
        h.0 ∷ rest.0,
        ap suc rest.1,
        (h.1, h.3.0, rest.2),
        chosen h.0 rest.0 x h.2 xs ys h.4 h.6 h.3.1 rest.3,
      )

  pub IsFilteredTo-filtered : (last s : S) (xs ys : List X) → IsFilteredTo R s xs ys last → IsFiltered R s xs ys
  IsFilteredTo-filtered last s xs ys h = (h.0, last, h.1, h.2, h.3)

module _ {S X : Type 0} (R : S → X → X → Bool → S → X → X → Type 0) where
  -- The item that stays last, which the next question shows beside its own. Where the answer is `true` it stays last, else the other one follows it.
  record StaysLast (Asked : List X → List X → S → Type 0) (xs ys : List X) (t : S) : Type 0 where
    before : List X
    beside : X
    stayed : ys ≡ before ++ beside ∷ []
    more : (b : Bool) (x y v : X) (u : S) → R t x beside b u y v → Asked (xs ++ x ∷ []) (before ++ v ∷ cond b [] (y ∷ [])) u

  -- one question alone
  asked_once : (b : Bool) (s t : S) (x k y v : X) → R s x k b t y v → DedupsFromTo R s k (x ∷ []) (v ∷ cond b [] (y ∷ [])) t
  asked_once true s t x k y v asked = (true, t, y, v, asked, (refl, refl))
  asked_once false s t x k y v asked = (false, t, y, v, asked, (y ∷ [], (refl, refl), refl))

  stays_last : (s : S) (k : X) (xs ys : List X) (t : S) → DedupsFromTo R s k xs ys t → StaysLast (DedupsFromTo R s k) xs ys t
  stays_last s k [] ys t h = record {
    before = [];
    beside = k;
    stayed = h.0;
    more = λ b x y v u asked. asked_once b s u x k y v (subst (λ r. R r x k b u y v) h.1 asked);
  }
  stays_last s k (x ∷ xs) ys t (true, r, x', k', asked, rest) =
      let on = stays_last r k' xs ys t rest in record {
        before = on.before;
        beside = on.beside;
        stayed = on.stayed;
        more = λ b z y v u next. (true, r, x', k', asked, on.more b z y v u next);
      }
  stays_last s k (x ∷ xs) ys t (false, r, x', k', asked, (zs, rest, is)) =
      let on = stays_last r x' xs zs t rest in record {
        before = k' ∷ on.before;
        beside = on.beside;
        stayed = is ∙ ap (λ l. k' ∷ l) on.stayed;
        more = λ b z y v u next. (false, r, x', k', asked, (on.before ++ v ∷ cond b [] (y ∷ []), on.more b z y v u next, refl));
      }

  last_of_all : (s : S) (xs ys : List X) (t : S) → 0 < length ys → IsDedupedTo R s xs ys t → StaysLast (IsDedupedTo R s) xs ys t
  last_of_all s [] ys t some h = absurd (omega (arith, some, ap length h.deduped.0))
  last_of_all s (x ∷ xs) ys t some h =
      let on = stays_last s x xs ys t h.deduped in record {
        before = on.before;
        beside = on.beside;
        stayed = on.stayed;
        more = λ b z y v u next. record { deduped = on.more b z y v u next };
      }

  -- no item stays of an empty list, and at first the first item
  pub dedup_none : (s : S) (xs : List X) → length xs ≡ 0 → IsDedupedTo R s xs [] s
  dedup_none s [] none = record { deduped = (refl, refl) }
  dedup_none s (x ∷ xs) none = absurd (omega (arith, none))

  pub first_stays : (s : S) (xs : List X) → (length xs ≡ 0 → ⊥) → Shown (λ us vs. IsDedupedTo R s us vs s) xs xs 1 1
  first_stays s [] some = absurd (some refl)
  first_stays s (x ∷ xs) some = record { so_far = record { deduped = (refl, refl) }; later = refl }

  -- a turn at i, with k items kept so far, where the question left zs
  module _ (s t u : S) (xs ys zs : List X) (k i : ℕ) (pos : 0 < k) (le : k ≤ i) (lt : i < length ys)
      (h : Shown (λ us vs. IsDedupedTo R s us vs t) xs ys k i) where
    module _ (b : Bool) (a : AsksPair R t ys i (k - 1) b u zs) where
      kept_so_far : take k ys ≡ take (k - 1) ys ++ a.beside ∷ []
      kept_so_far =
          let all : k - 1 + 1 ≡ k = omega arith in
          ap (λ n. take n ys) (sym all) ∙ take_more ys (k - 1) a.beside (omega arith) ∙ ap (λ v. take (k - 1) ys ++ v ∷ []) (sym a.shows.1)

      left_behind : drop (i + 1) zs ≡ drop (i + 1) ys
      left_behind = ap (drop (i + 1)) a.after ∙ drop-set-lt (i + 1) (set ys i a.left) (k - 1) a.left_beside (omega arith) ∙ drop-set-lt (i + 1) ys i a.left (omega arith)

      left_front : take k zs ≡ take (k - 1) ys ++ a.left_beside ∷ []
      left_front =
          let all : k - 1 + 1 ≡ k = omega arith in
          ap (take k) a.after ∙ ap (λ n. take n (set (set ys i a.left) (k - 1) a.left_beside)) (sym all)
          ∙ take_more_set (set ys i a.left) (k - 1) a.left_beside (omega (arith, length-set ys i a.left))
          ∙ ap (λ l. l ++ a.left_beside ∷ []) (take-set-le (k - 1) ys i a.left (omega arith))

      left_there : take 1 (drop i zs) ≡ a.left ∷ []
      left_there =
          let one = length-set ys i a.left in
          let both = length-set (set ys i a.left) (k - 1) a.left_beside in
          item_at zs i a.left (omega (arith, ap length a.after))
          (rw a.after (search (rules, places)))

      -- the list was then moved to ms
      turned_pair : (ms : List X) (j : ℕ) → drop (i + 1) ms ≡ drop (i + 1) zs → take j ms ≡ take (k - 1) ys ++ a.left_beside ∷ cond b [] (a.left ∷ [])
          → Shown (λ us vs. IsDedupedTo R s us vs u) xs ms j (i + 1)
      turned_pair ms j behind front =
          shown_more _ xs ys k i h _ ms j a.shown lt a.shows.0 (behind ∙ left_behind)
          (λ us so_far.
          let last = last_of_all s us (take k ys) t (omega (arith, length-take k ys)) so_far in
          let same = same_from_push last.before (take (k - 1) ys) last.beside a.beside (sym last.stayed ∙ kept_so_far) in
          rw (front, ← same.0) (last.more b a.shown a.left a.left_beside u (rw same.1 a.asked)))

    pub drops_repeat : AsksPair R t ys i (k - 1) true u zs → Shown (λ us vs. IsDedupedTo R s us vs u) xs zs k (i + 1)
    drops_repeat a = turned_pair true a zs k refl (left_front true a)

    pub keeps_other : AsksPair R t ys i (k - 1) false u zs → Shown (λ us vs. IsDedupedTo R s us vs u) xs (swap zs k i) (k + 1) (i + 1)
    keeps_other a =
        let one = length-set ys i a.left in
        let both = length-set (set ys i a.left) (k - 1) a.left_beside in
        let within : i < length zs = omega (arith, ap length a.after) in
        turned_pair false a (swap zs k i) (k + 1) (swap_behind zs k i le within)
        (swap_front zs k i le within ∙ rw (left_front false a, left_there false a) (append_assoc (take (k - 1) ys) (a.left_beside ∷ []) (a.left ∷ [])))

module _ {S X : Type 0} (R : S → X → X → Bool → S → X → X → Type 0) (last : S) where
  matched : (b : Bool) (P P' Q Q' : Type 0) → (P → P') → (Q → Q') → MatchBool b P Q → MatchBool b P' Q'
  matched true P P' Q Q' f g h = f h
  matched false P P' Q Q' f g h = g h

  forgets : (s : S) (k : X) (xs ys : List X) → DedupsFromTo R s k xs ys last → DedupsFrom R s k xs ys
  forgets s k [] ys h = h.0
  forgets s k (x ∷ xs) ys h = (h.0, h.1, h.2, h.3, h.4, matched h.0 _ _ _ _ (forgets h.1 h.3 xs ys) (λ q. (q.0, forgets h.1 h.2 xs q.0 q.1, q.2)) h.5)

  forgets_all : (s : S) (xs ys : List X) → DedupsAllTo R s xs ys last → DedupsAll R s xs ys
  forgets_all s [] ys h = h.0
  forgets_all s (x ∷ xs) ys h = forgets s x xs ys h

  pub IsDedupedTo-deduped : (s : S) (xs ys : List X) → IsDedupedTo R s xs ys last → IsDeduped R s xs ys
  IsDedupedTo-deduped s xs ys h = record { told = forgets_all s xs ys h.deduped }

module _ {X : Type 0} where
  -- writes to the two parts of a slice that was cut at i
  pub joined_writes : (xs : List X) (i j : ℕ) (x y : X) → j < i → set (take i xs) j y ++ set (drop i xs) 0 x ≡ set (set xs i x) j y
  joined_writes xs i j x y lt =
      let long = length-set xs i x in
      same_lists _ _ (search (rules, places)) (λ k e h. grind (arith, places, get_or-set_same, length-set (take i xs) j y, length-set (drop i xs) 0 x, cases_eq k j, cases_eq k i))
