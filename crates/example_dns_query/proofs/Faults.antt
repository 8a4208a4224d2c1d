-- What is wrong with a label.
use Rattle.std.proofs.Common.{◌≡◌, ℕ, ◌<◌, ◌≤◌, ◌==◌, Bool, true, false, nat_lt, if◌then◌else◌, List, [], ◌∷◌, length, All, Option, Some, refl, arith}
use Rattle.std.proofs.lemmas.Bool.{eqb-false, eqb-true, ltb-false, ltb-true}
use Rattle.std.proofs.lemmas.List.Elements.{All-nil, All-cons, All-head, All-tail}
use Rattle.example_dns_query.specs.Name.{IsLabel, first_fault}
use Rattle.example_dns_query.specs.declared.query.QueryError.{QueryError}
use Rattle.example_dns_query.specs.declared.query.QueryError.TheVariants.{EmptyLabel, LongLabel}

-- the first fault, with the two tests of the first label in hand
abbrev fault_by : Bool → Bool → List (List ℕ) → Option QueryError
fault_by is_empty is_long labels = if is_empty then Some EmptyLabel else if is_long then Some LongLabel else first_fault labels

cases_by : {A : Type 0} (is_empty is_long : Bool) (labels : List (List ℕ)) (fault : QueryError)
    → fault_by is_empty is_long labels ≡ Some fault
    → (fault ≡ EmptyLabel → A) → (fault ≡ LongLabel → A) → (first_fault labels ≡ Some fault → A) → A
cases_by true is_long labels fault is empty long later = empty cc
cases_by false true labels fault is empty long later = long cc
cases_by false false labels fault is empty long later = later is

-- a label is at fault in one of two ways
pub fault_cases : {A : Type 0} (labels : List (List ℕ)) (fault : QueryError) → first_fault labels ≡ Some fault
    → (fault ≡ EmptyLabel → A) → (fault ≡ LongLabel → A) → A
fault_cases [] fault is empty long = absurd cc
fault_cases (label ∷ labels) fault is empty long =
    cases_by (length label == 0) (nat_lt 63 (length label)) labels fault is empty long (λ later. fault_cases labels fault later empty long)

labels_by : (is_empty is_long : Bool) (label : List ℕ) (labels : List (List ℕ))
    → (length label == 0) ≡ is_empty → nat_lt 63 (length label) ≡ is_long
    → ((fault : QueryError) → fault_by is_empty is_long labels ≡ Some fault → ⊥)
    → IsLabel label × ((fault : QueryError) → first_fault labels ≡ Some fault → ⊥)
labels_by true is_long label labels empty long none = absurd (none EmptyLabel refl)
labels_by false true label labels empty long none = absurd (none LongLabel refl)
labels_by false false label labels empty long none =
    let some = eqb-false (length label) 0 empty in
    let most = ltb-false 63 (length label) long in
    ((omega (arith, some), omega (arith, most)), none)

-- where none is at fault, each is a label
pub no_fault : (labels : List (List ℕ)) → ((fault : QueryError) → first_fault labels ≡ Some fault → ⊥) → All IsLabel labels
no_fault [] none = All-nil IsLabel
no_fault (label ∷ labels) none =
    let both = labels_by (length label == 0) (nat_lt 63 (length label)) label labels refl refl none in
    All-cons IsLabel label labels both.0 (no_fault labels both.1)

faulty_by : (is_empty is_long : Bool) (label : List ℕ) (labels : List (List ℕ)) (fault : QueryError)
    → (length label == 0) ≡ is_empty → nat_lt 63 (length label) ≡ is_long → IsLabel label
    → fault_by is_empty is_long labels ≡ Some fault → (first_fault labels ≡ Some fault → ⊥) → ⊥
faulty_by true is_long label labels fault empty long good is later = let none = eqb-true (length label) 0 empty in omega (arith, none)
faulty_by false true label labels fault empty long good is later = let most = ltb-true 63 (length label) long in omega (arith, most)
faulty_by false false label labels fault empty long good is later = later is

-- and the other way round
pub fault_not_labels : (labels : List (List ℕ)) (fault : QueryError) → first_fault labels ≡ Some fault → All IsLabel labels → ⊥
fault_not_labels [] fault is all = cc
fault_not_labels (label ∷ labels) fault is all =
    let head : (0 < length label) × (length label ≤ 63) = All-head IsLabel label labels all in
    faulty_by (length label == 0) (nat_lt 63 (length label)) label labels fault refl refl head is (λ later. fault_not_labels labels fault later (All-tail IsLabel label labels all))
