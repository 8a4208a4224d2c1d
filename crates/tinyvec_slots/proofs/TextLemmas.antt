-- What a list is written as.
use Rattle.std.proofs.Common.{◌≡◌, ◌∙◌, ap, ℕ, List, [], ◌∷◌, ◌++◌, Option, Some}
use Rattle.std.specs.List.{join_by}
use Rattle.std.specs.Fmt.{comma_space, debug_list}
use Rattle.std.proofs.Debugs.{debug_list-Some}

-- where the text of each item is known, so is that of a list
pub debug_list-known : {X : Type 0} (output : X → Option (List ℕ)) (text : X → List ℕ)
    → ((x : X) → output x ≡ Some (text x)) → (xs : List X)
    → debug_list output xs ≡ Some (91 ∷ (join_by text comma_space xs ++ 93 ∷ []))
debug_list-known output text known xs = ap (λ of. debug_list of xs) (λ i x. known x i) ∙ debug_list-Some text xs
