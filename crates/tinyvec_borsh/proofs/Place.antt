-- Where a vector is that is read item after item.
use Rattle.std.proofs.Common.{◌≡◌, ◌∙◌, ◌*◌, max, min, Bool, true, false, if◌then◌else◌, sym, subst, IsTrue, ◌<◌, ◌≤◌, ◌-◌, ◌++◌, [], take, drop, length, inl, inr, List, ℕ, zero, suc, ◌+◌, refl, arith, Result, Err, IsOk, is_ok, ap}
use Rattle.std.proofs.lemmas.List.{nil_from_length, length-drop, take-append-drop}
use Rattle.std.proofs.lemmas.List.Elements.{All-drop}
use Rattle.tinyvec_slots.specs.Slots.{AreDefaults}
use Rattle.std.proofs.lemmas.Bool.{both_ways, cases_lt}
use Rattle.tinyvec.specs.PlaceLaws.{place_grown, place_same, pushed_same}
use Rattle.tinyvec.proofs.PlaceLemmas.{pushed_further, pushed_next, was_inline}
use Rattle.tinyvec_borsh.specs.Place.{GrowsBy, place_ahead, place_read}
use Rattle.tinyvec_array.specs.ViewLaws.{rule_at}
use Rattle.tinyvec.specs.View.{Doubled, Exact, Growth, Place, Reserved, SpareRule, TinyView, in_array, place_for, place_pushed, takes_need}

either : (b : Bool) (x y least most : ℕ) → least ≤ x → least ≤ y → x ≤ most → y ≤ most → (least ≤ (if b then x else y)) × ((if b then x else y) ≤ most)
either true x y least most p q r s = (p, r)
either false x y least most p q r s = (q, s)

-- where room was made for n items, there is no less than there was, and at most for twice as many, if there was not more
pub room-made : (how : Growth) (n : ℕ) (p : Place) → (p.capacity ≤ (place_for how n p).capacity) × ((place_for how n p).capacity ≤ max p.capacity (2 * n))
room-made how n p = elim (cases_lt p.capacity n) [
  | inl less ↦
      let is = ap (λ (q : Place). q.capacity) (place_grown how n p less) in
      let bounds = either (takes_need how p) n (max (2 * p.capacity) n) p.capacity (2 * n) (omega (arith, less)) (omega arith) (omega arith) (omega (arith, less)) in
      (omega (arith, is, bounds.0), omega (arith, is, bounds.1))
  | inr room ↦ let is = ap (λ (q : Place). q.capacity) (place_same how n p room) in (omega (arith, is), omega (arith, is))
]

module _ {T : Type 0} where
  -- A list of which n items are to come is inline only where those so far fit, and surely where all do.
  pub record IsPlaced (slots n : ℕ) (v : TinyView T) : Type 0 where
    pub fits : IsTrue v.place.inline → length v.items ≤ slots
    pub all_fit : n ≤ slots → IsTrue v.place.inline

  -- where it got longer, by the place rule
  pub placed-longer : (slots n : ℕ) (how : Growth) (old new : TinyView T) → length new.items ≤ n → new.place ≡ place_for how (length new.items) old.place
      → (IsTrue old.place.inline → old.place.capacity ≡ slots) → IsPlaced slots n old → IsPlaced slots n new
  placed-longer slots n how old new few is inline before = record {
    fits = λ h. let was = was_inline how (length new.items) old.place (subst (λ (p : Place). IsTrue p.inline) is h) in omega (arith, was.1, inline was.0);
    all_fit = λ h.
        let was = before.all_fit h in
        ap (λ (p : Place). p.inline) (is ∙ place_same how (length new.items) old.place (omega (arith, few, h, inline was))) ∙ was;
  }

  -- A list that got longer in its place used up defaults, where the slots after it were defaults.
  pub spare-longer : (D : T → Type 0) (slots : ℕ) (how : Growth) (old new : TinyView T) → length old.items ≤ length new.items → new.place ≡ place_for how (length new.items) old.place → SpareRule D old new
      → (IsTrue old.place.inline → AreDefaults D (slots - length old.items) old.spare) → IsTrue new.place.inline → AreDefaults D (slots - length new.items) new.spare
  spare-longer D slots how old new longer is_place used before h =
      let was = (was_inline how (length new.items) old.place (subst (λ (p : Place). IsTrue p.inline) is_place h)).0 in
      let were = before was in
      let u = rule_at D old new used was h in
      let n = length new.items - length old.items in
      let none : u.0 ≡ [] = nil_from_length u.0 (omega (arith, u.1.0, longer)) in
      let is : new.spare ≡ drop n old.spare = u.2 ∙ ap (λ ds. ds ++ drop n old.spare) none in
      let long = length-drop n old.spare in
      subst (AreDefaults D (slots - length new.items)) (sym is) (omega (arith, long, were.0, longer), All-drop D n old.spare were.1)

-- room ahead, for at most 1024 items, is refused only where the array has not as many slots, and not for all items
pub wants-ahead : {X E : Type 0} (slots n ahead : ℕ) (r : Result X E) (e : E) → r ≡ Err e → ahead ≡ min n 1024 → (ahead ≤ slots → IsOk r) → (slots < n) × (slots < 1024)
wants-ahead slots n ahead r e is some succeeds = elim (cases_lt slots ahead) [
  | inl above ↦ (omega (arith, some, above), omega (arith, some, above))
  | inr fits ↦ absurd (both_ways (is_ok r) (ap is_ok is) (succeeds fits))
]

-- all that fit the array are there
pub read-inline : (slots n : ℕ) → n ≤ slots → place_read slots n ≡ in_array slots
read-inline slots n fits =
    ap (λ p. place_for Reserved n (place_pushed (n - 1) p)) (place_same Exact (min n 1024) (in_array slots) (omega (arith, fits)))
    ∙ ap (place_for Reserved n) (pushed_same (n - 1) (in_array slots) (omega (arith, fits))) ∙ place_same Reserved n (in_array slots) fits

-- The slots of a list that was empty before defaults still hold these after the first n.
pub defaults-behind : {T : Type 0} (D : T → Type 0) (slots len n : ℕ) (xs : List T) → take len xs ≡ [] → AreDefaults D slots (drop len xs) → AreDefaults D (slots - n) (drop n xs)
defaults-behind D slots len n xs none were =
    let all : xs ≡ drop len xs = sym (take-append-drop len xs) ∙ ap (λ ys. ys ++ drop len xs) none in
    let are = subst (AreDefaults D slots) (sym all) were in
    let long = length-drop n xs in
    (omega (arith, long, are.0), All-drop D n xs are.1)

-- Where a list is, of which this many of n items were read.
pub record IsAt (slots n len : ℕ) (p : Place) : Type 0 where
  pub so_far : len < n → p ≡ place_pushed len (place_ahead slots n)
  pub all : len ≡ n → p ≡ place_read slots n

none-pushed : (n : ℕ) (p : Place) → 0 ≡ n → place_for Reserved n (place_pushed (n - 1) p) ≡ p
none-pushed zero p is = place_same Reserved zero p (omega arith)
none-pushed (suc n) p is = absurd (omega (arith, is))

-- before the first
pub at-first : (slots n ahead len : ℕ) (p : Place) → ahead ≡ min n 1024 → len ≡ 0 → p ≡ place_for Reserved ahead (in_array slots) → IsAt slots n len p
at-first slots n ahead len p few none made =
    let is : p ≡ place_ahead slots n = made ∙ ap (λ k. place_for Exact k (in_array slots)) few in
    record {
      so_far = λ more. is ∙ ap (λ k. place_pushed k (place_ahead slots n)) (sym none);
      all = λ all. is ∙ sym (none-pushed n (place_ahead slots n) (sym none ∙ all));
    }

-- and after some more
pub at-next : (slots n len more : ℕ) (how : Growth) (p q : Place) → len < more → more ≤ n → GrowsBy how more n p → q ≡ place_for how more p → IsAt slots n len p → IsAt slots n more q
at-next slots n len more how p q longer fits grows is before =
    let start = place_ahead slots n in
    let was = before.so_far (omega (arith, longer, fits)) in
    let one : more - 1 + 1 ≡ more = omega (arith, longer) in
    let further : place_pushed (more - 1) start ≡ place_pushed len start = pushed_further len (more - 1) start (omega (arith, longer)) (omega (arith, ap (λ (p : Place). p.capacity) was, grows.one_more)) in
    let at : q ≡ place_for how more (place_pushed (more - 1) start) = is ∙ ap (place_for how more) (was ∙ sym further) in
    record {
      so_far = λ less. at ∙ ap (λ h. place_for h more (place_pushed (more - 1) start)) (grows.pushes less) ∙ ap (λ k. place_for Doubled k (place_pushed (more - 1) start)) (sym one) ∙ pushed_next (more - 1) more start (sym one);
      all = λ all. at ∙ ap (λ h. place_for h more (place_pushed (more - 1) start)) (grows.last all) ∙ ap (λ k. place_for Reserved k (place_pushed (k - 1) start)) all;
    }

-- which growth it is that read some of them, where there was room for all but the last
pub grows-last : (n count : ℕ) (p : Place) → n ≤ p.capacity + 1 → n ≤ count → (n < count → n ≤ p.capacity) → (how : Growth) × GrowsBy how n count p × (place_for how n p ≡ place_for Reserved n p)
grows-last n count p room fits enough = elim (cases_lt n count) [
  | inl less ↦ (Doubled, record { pushes = λ _. refl; last = λ is. absurd (omega (arith, less, is)); one_more = room }, place_same Doubled n p (enough less) ∙ sym (place_same Reserved n p (enough less)))
  | inr all ↦ (Reserved, record { pushes = λ less. absurd (omega (arith, less, all)); last = λ _. refl; one_more = room }, refl)
]
