-- The slot rule of a list that got longer, or shorter, and what a call that keeps to its slots does to the view.
use Rattle.std.proofs.Common.{◌≡◌, ℕ, ◌+◌, ◌-◌, List, [], ◌++◌, length, drop, length-take, refl, ap, ◌∙◌, arith}
use Rattle.std.specs.Prelude.{Bool, true, false, IsTrue, MatchBool, ⊤}
use Rattle.std.proofs.lemmas.Bool.{false≢true}
use Rattle.std.proofs.lemmas.List.{nil_from_length}
use Rattle.tinyvec_slots.specs.Slots.{AreDefaults, SlotRule}
use Rattle.tinyvec_array.specs.ArrayVec.{view_of, SameLender}
use Rattle.tinyvec_array.specs.View.{PlaceOf, View, view, SpareRule, Becomes, StaysInPlace}
use Rattle.tinyvec_array.specs.declared.slots.Slots as Storage
use Rattle.tinyvec_array.specs.declared.array_vec.ArrayVec.{ArrayVec}

pub one_place : {N : Type 0} {p q : PlaceOf N} → p.inline ≡ q.inline → p.capacity ≡ q.capacity → p.lender ≡ q.lender → p ≡ q
one_place side count name i = record { inline = side i; capacity = count i; lender = name i }

-- The list was xs and is ys, the spare slots were us and are vs.
abbrev pub Ruled : {T : Type 0} → (T → Type 0) → List T → List T → List T → List T → Type 0
Ruled D xs ys us vs = (ds : List _) × AreDefaults D (length xs - length ys) ds × (vs ≡ ds ++ drop (length ys - length xs) us)

module _ {T : Type 0} (D : T → Type 0) (xs ys us vs : List T) where
  -- what the rule says of a list that got k items longer
  pub used_by : (k : ℕ) → length ys ≡ length xs + k → Ruled D xs ys us vs → vs ≡ drop k us
  used_by k more rule =
      let none : rule.0 ≡ [] = nil_from_length rule.0 (rule.1.0 ∙ omega (arith, more)) in
      let count : length ys - length xs ≡ k = omega (arith, more) in
      rule.2 ∙ ap (λ ds. ds ++ drop (length ys - length xs) us) none ∙ ap (λ n. drop n us) count

  -- and of one that got k items shorter
  pub freed_by : (k : ℕ) → length xs ≡ length ys + k → Ruled D xs ys us vs → (ds : List T) × AreDefaults D k ds × (vs ≡ ds ++ us)
  freed_by k less rule =
      let count : length xs - length ys ≡ k = omega (arith, less) in
      let none : length ys - length xs ≡ 0 = omega (arith, less) in
      (rule.0, (rule.1.0 ∙ count, rule.1.1), rule.2 ∙ ap (λ n. rule.0 ++ drop n us) none)

at_both : {R : Type 0} (b c : Bool) → MatchBool b (MatchBool c R ⊤) ⊤ → IsTrue b → IsTrue c → R
at_both true true r i j = r
at_both true false r i j = absurd (false≢true j)
at_both false c r i j = absurd (false≢true i)

by_both : {R : Type 0} (b c : Bool) → (IsTrue b → IsTrue c → R) → MatchBool b (MatchBool c R ⊤) ⊤
by_both true true f = f refl refl
by_both true false f = tt
by_both false c f = tt

-- the slot rule of a list that may be on the heap
module _ {T N : Type 0} (D : T → Type 0) (old new : View T N) where
  pub rule_at : SpareRule D old new → IsTrue old.place.inline → IsTrue new.place.inline → Ruled D old.items new.items old.spare new.spare
  rule_at = at_both old.place.inline new.place.inline

  pub rule_by : (IsTrue old.place.inline → IsTrue new.place.inline → Ruled D old.items new.items old.spare new.spare) → SpareRule D old new
  rule_by = by_both old.place.inline new.place.inline

module _ {S T L : Type 0} (g : Storage.Ghosts S T L) where
  pub same_place : (old new : ArrayVec S L) → SameLender g old new → (view g new).place ≡ (view g old).place
  same_place old new same = one_place refl same.slot_count same.same_reference

  module _ (D : T → Type 0) (old new : ArrayVec S L) (place : (view g new).place ≡ (view g old).place) (rule : SlotRule D (view_of g old) (view_of g new)) where
    pub becomes : (xs : List T) → (view g new).items ≡ xs → Becomes D (view g old) (view g new) xs
    becomes xs is = record { items = is; place = place; slot_rule = rule; fits = omega (arith, length-take (g.count new.len) (g.slots new.slots)) }

    pub stays : StaysInPlace D (view g old) (view g new)
    stays = becomes (view g new).items refl
