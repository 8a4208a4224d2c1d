-- Where a list is once there is room for it.
use Rattle.std.proofs.Common.{◌≡◌, inl, inr, ℕ, zero, suc, ◌*◌, ◌<◌, ◌≤◌, max, refl, ap, ◌∙◌, arith}
use Rattle.std.specs.Prelude.{if◌then◌else◌}
use Rattle.std.proofs.lemmas.Bool.{cases_lt, le-leb, lt-leb}
use Rattle.tinyvec.specs.View.{Place, on_heap, Growth, Doubled, takes_need, place_for, place_pushed}

-- there was that room
pub place_same : (how : Growth) (need : ℕ) (p : Place) → need ≤ p.capacity → place_for how need p ≡ p
place_same how need p le = rw (le-leb need p.capacity le) refl

-- there was less room
pub place_grown : (how : Growth) (need : ℕ) (p : Place) → p.capacity < need → place_for how need p ≡ on_heap (if takes_need how p then need else max (2 * p.capacity) need)
place_grown how need p less = rw (lt-leb need p.capacity less) refl

-- no place gets smaller
no_smaller : (need : ℕ) (p : Place) → p.capacity ≤ (place_for Doubled need p).capacity
no_smaller need p = elim (cases_lt p.capacity need) [
  | inl less ↦ let is = ap (λ q. q.capacity) (place_grown Doubled need p less) in omega (arith, is)
  | inr fits ↦ let is = ap (λ q. q.capacity) (place_same Doubled need p fits) in omega (arith, is)
]

pub pushed_no_less : (n : ℕ) (p : Place) → p.capacity ≤ (place_pushed n p).capacity
pushed_no_less zero p = omega arith
pushed_no_less (suc n) p = let before = pushed_no_less n p in let more = no_smaller (suc n) (place_pushed n p) in omega (arith, before, more)

-- a list that has room for all stays where it is
pub pushed_same : (n : ℕ) (p : Place) → n ≤ p.capacity → place_pushed n p ≡ p
pushed_same zero p le = refl
pushed_same (suc n) p le = ap (place_for Doubled (suc n)) (pushed_same n p (omega (arith, le))) ∙ place_same Doubled (suc n) p le
