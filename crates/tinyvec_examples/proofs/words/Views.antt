-- Examples of what is seen of a vector, and of what calls do to it. `seen [1, 2] [0]` has the list `[1, 2]` and one spare slot, which holds 0.
use Rattle.std.proofs.Common.{◌≡◌, ℕ, ◌+◌, List, [], ◌∷◌, length, refl, rules, arith, ap, true}
use Rattle.tinyvec_array.specs.declared.slots.Slots as Storage
use Rattle.tinyvec_array.specs.declared.array_vec.ArrayVec.{ArrayVec}
use Rattle.tinyvec_array.specs.View.{View, view, NothingVacated, SpareRule, BecomesIn, Becomes, StaysInPlace, ShortensInPlace}
use Rattle.tinyvec_examples.proofs.words.Shown.{D}

abbrev seen : List ℕ → List ℕ → View ℕ Unit
seen xs ys = record { items = xs; spare = ys; place = record { inline = true; capacity = length xs + length ys; lender = tt } }

-- of tinyvec_array.specs.View: the place is a `PlaceOf Unit`
pub example-PlaceOf : (seen (1 ∷ 2 ∷ []) (0 ∷ [])).place ≡ record { inline = true; capacity = 3; lender = tt }
example-PlaceOf = refl

-- v is a `View ℕ Unit`
pub example-View : (v : View ℕ Unit) → v ≡ seen (1 ∷ 2 ∷ []) (0 ∷ []) → v.items ≡ 1 ∷ 2 ∷ []
example-View v is = ap (λ v. v.items) is

module _ {B L : Type 0} (g : Storage.Ghosts B ℕ L) (v : ArrayVec B L) (lent : g.slots v.slots ≡ 1 ∷ 2 ∷ 0 ∷ []) (len : g.count v.len ≡ 2) where
  -- of a vector over the slots `[1, 2, 0]`, whose list is `[1, 2]`
  pub example-view : (view g v).items ≡ 1 ∷ 2 ∷ []
  example-view = rw (lent, len) refl

pub example-NothingVacated : (x : ℕ) → NothingVacated x → ⊥
example-NothingVacated x holds = holds

pub example-SpareRule : SpareRule D (seen (1 ∷ 2 ∷ []) (7 ∷ [])) (seen (1 ∷ []) (0 ∷ 7 ∷ []))
example-SpareRule = (0 ∷ [], search rules, refl)

pub example-BecomesIn : BecomesIn NothingVacated (seen (1 ∷ []) (7 ∷ 8 ∷ [])) (seen (1 ∷ 2 ∷ []) (8 ∷ [])) (1 ∷ 2 ∷ []) (seen (1 ∷ []) (7 ∷ 8 ∷ [])).place
example-BecomesIn = record { items = refl; place = refl; slot_rule = ([], search rules, refl); fits = omega arith }

pub example-Becomes : Becomes D (seen (1 ∷ 2 ∷ []) (7 ∷ [])) (seen (1 ∷ []) (0 ∷ 7 ∷ [])) (1 ∷ [])
example-Becomes = record { items = refl; place = refl; slot_rule = example-SpareRule; fits = omega arith }

pub example-StaysInPlace : StaysInPlace D (seen (1 ∷ 2 ∷ []) (7 ∷ [])) (seen (1 ∷ []) (0 ∷ 7 ∷ []))
example-StaysInPlace = example-Becomes

pub example-ShortensInPlace : ShortensInPlace D (seen (1 ∷ 2 ∷ []) (7 ∷ [])) (seen (1 ∷ []) (0 ∷ 7 ∷ []))
example-ShortensInPlace = record { bound = omega arith; frame = example-Becomes }
