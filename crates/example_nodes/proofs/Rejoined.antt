-- Lists with a bracket after each.
use Rattle.std.proofs.Common.{◌≡◌, ◌∙◌, List, [], ◌∷◌, ◌++◌, map, length, refl, sym, ap, arith, append_assoc}
use Rattle.example_nodes.specs.Machine.{followed_by}

module _ {A : Type 0} (bracket : A) where
  -- one bracket more
  pub outer_push : {V : Type 0} (f : V → List A) (vs : List V) (v : V) → followed_by bracket (map f (vs ++ v ∷ [])) ≡ (followed_by bracket (map f vs) ++ f v) ++ bracket ∷ []
  outer_push f [] v = refl
  outer_push f (u ∷ vs) v =
      let all = bracket ∷ followed_by bracket (map f vs) in
      ap (λ xs. f u ++ bracket ∷ xs) (outer_push f vs v)
      ∙ sym (ap (λ xs. xs ++ bracket ∷ []) (append_assoc (f u) all (f v)) ∙ append_assoc (f u) (all ++ f v) (bracket ∷ []))

  -- what is in the brackets, and what precedes them
  pub rejoined : (closing : A) (outer before inner : List A) → (((outer ++ before) ++ bracket ∷ []) ++ inner) ++ closing ∷ [] ≡ outer ++ (before ++ bracket ∷ (inner ++ closing ∷ []))
  rejoined closing outer before inner =
      append_assoc ((outer ++ before) ++ bracket ∷ []) inner (closing ∷ [])
      ∙ append_assoc (outer ++ before) (bracket ∷ []) (inner ++ closing ∷ [])
      ∙ append_assoc outer before (bracket ∷ (inner ++ closing ∷ []))

  -- no bracket is open
  pub none_open : {V : Type 0} (f : V → List A) (vs : List V) → length vs ≡ 0 → followed_by bracket (map f vs) ≡ []
  none_open f [] none = refl
  none_open f (v ∷ vs) none = absurd (omega (arith, none))
