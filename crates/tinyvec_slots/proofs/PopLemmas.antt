-- What a question about the last item says of a `pop_if`.
use Rattle.std.proofs.Common.{◌≡◌, ℕ, ◌+◌, Bool, true, false, List, [], ◌∷◌, ◌++◌, length, take, slice_get, slice_index_or, slice_set, Some, None, refl, sym, ap, ◌∙◌, subst, inr, arith, take_all, length-set, MutBor}
use Rattle.std.proofs.lemmas.List.{take_more, take_more_set, take-set, get_or-set_same}
use Rattle.std.proofs.lemmas.Option.{slice_get-get_or}
use Rattle.std.specs.Fn.{FnOnceReturnsAtMut, Once}
use Rattle.std.specs.List.Retain.{PopsIf}

module _ {F T : Type 0} (g : Once F (MutBor T × Unit {0}) (Bool × (MutBor T × Unit {0}))) (f : F) (xs : List T) (n : ℕ) (x : T) (b : Bool) (y : T) (last : n + 1 ≡ length xs) (shown : x ≡ slice_index_or xs n x) (asked : FnOnceReturnsAtMut g f x b y) where
  was : xs ≡ take n xs ++ x ∷ []
  was = sym (take_all (n + 1) xs (omega arith)) ∙ take_more xs n x (omega arith) ∙ rw (← shown)

  -- the item goes
  pub pops_if-true : b ≡ true → PopsIf g xs (take n (slice_set xs n y)) f (slice_get (slice_set xs n y) n)
  pops_if-true is =
      let here = slice_get-get_or (slice_set xs n y) n y (omega (arith, length-set xs n y)) ∙ ap Some (get_or-set_same xs n y y (omega arith)) in
      inr (take n xs, x, true, y, was, subst (λ c. FnOnceReturnsAtMut g f x c y) is asked, here, take-set xs n y)

  -- the item stays
  pub pops_if-false : b ≡ false → PopsIf g xs (slice_set xs n y) f None
  pops_if-false is =
      let left = sym (take_all (n + 1) (slice_set xs n y) (omega (arith, length-set xs n y))) ∙ take_more_set xs n y (omega arith) in
      inr (take n xs, x, false, y, was, subst (λ c. FnOnceReturnsAtMut g f x c y) is asked, refl, left)
