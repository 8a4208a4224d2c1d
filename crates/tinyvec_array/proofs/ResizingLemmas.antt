-- Lemmas on a list that is cut item by item, where each vacated slot is written.
use Rattle.std.proofs.Common.{◌≡◌, ℕ, suc, ◌-◌, ◌<◌, ◌≤◌, List, ◌∷◌, ◌++◌, length, take, replicate, ap, subst, ◌∙◌, arith, length-take-le}
use Rattle.std.proofs.lemmas.List.{take-take}
use Rattle.std.proofs.lemmas.List.Elements.{same_from_all_zip}
use Rattle.std.specs.List.{AllZip}
use Rattle.tinyvec_slots.specs.Clones.{ClonesAreEqual}
use Rattle.tinyvec_slots.specs.Clones.{ClonesBefore}

module _ {X : Type 0} (whole old new : List X) (some : 0 < length old) (last : new ≡ take (length old - 1) old) where
  -- one item less
  pub one_less : length new ≡ length old - 1
  one_less = ap length last ∙ length-take-le (length old - 1) old (omega arith)

  -- what is left are still the first items
  pub first_items : old ≡ take (length old) whole → new ≡ take (length new) whole
  first_items is = cc (is, last, one_less, take-take (length old - 1) (length old) whole (omega arith))

  -- and one more slot was written
  pub one_more : length old ≤ length whole → suc (length whole - length old) ≡ length whole - length new
  one_more le = omega (arith, one_less)

  -- with a clone, as the others were
  pub clone_before : (C : X → X → Type 0) (x y : X) (base behind after : List X) → length old ≤ length whole → C x y → after ≡ y ∷ behind
      → ClonesBefore C (replicate (length whole - length old) x) base behind → ClonesBefore C (replicate (length whole - length new) x) base after
  clone_before C x y base behind after le clone is h =
      let ys : List X = h.0 in
      (y ∷ ys, subst (λ n. AllZip C (replicate n x) (y ∷ ys)) (one_more le) (clone, h.1), is ∙ ap (λ l. y ∷ l) h.2)

-- what is left, in the words of how many slots were written
pub left_after : {X : Type 0} (xs : List X) (k : ℕ) → k ≤ length xs → take k xs ≡ take (length xs - (length xs - k)) xs
left_after xs k le = let back : k ≡ length xs - (length xs - k) = omega arith in cc

-- where clones equal their originals
module _ {X : Type 0} (C : X → X → Type 0) (rule : ClonesAreEqual C) where
  pub before_equal : (xs old new : List X) → ClonesBefore C xs old new → new ≡ xs ++ old
  before_equal xs old new h = h.2 ∙ ap (λ l. l ++ old) (same_from_all_zip C xs h.0 h.1 rule)
