-- What std's iterators yield, in the form in which the clause `known` of `extend`, `finish` and `splice_all` takes it. Those of a
-- `Vec` and of a range are `YieldsList-from_vec` and `YieldsList-from_range` of std's lemmas, with `.runs`.
use Rattle.std.proofs.Common.{◌≡◌, ℕ, List, Option, Some, None, Iter, ap, subst, ◌∙◌}
use Rattle.std.proofs.iter.Yields.{Copied-slice}
use Rattle.std.proofs.lemmas.Iterator.Consumers.{YieldsList-from_shown}
use Rattle.std.proofs.lemmas.List.{nil_from_length}
use Rattle.std.specs.Array.Iter.{array_into_iter_items, array_steps, array_steps_back}
use Rattle.std.specs.Iterator.{AlwaysYields, YieldsFirst, YieldsLast}
use Rattle.std.specs.Iterator.Adapters.{copied_source, copied_steps}
use Rattle.std.specs.Slice.Iter.{iter_rest, iter_steps}
use Rattle.std.specs.declared.array.IntoIter.{IntoIter as Items}
use Rattle.std.specs.declared.iter.Copied.{Copied}
use Rattle.tinyvec_slots.specs.Fused.{HasTwoEnds}

-- an array
module _ {X : Type 0} {n : ℕ} where
  first_of_array : (s : Items X n) (r : Option X) (t : Items X n) → array_steps s r t → YieldsFirst array_into_iter_items s r t
  first_of_array s None t h = let none = nil_from_length _ h.0 in (none, ap array_into_iter_items h.1 ∙ none)
  first_of_array s (Some x) t h = h

  last_of_array : (s : Items X n) (r : Option X) (t : Items X n) → array_steps_back s r t → YieldsLast array_into_iter_items s r t
  last_of_array s None t h = let none = nil_from_length _ h.0 in (none, ap array_into_iter_items h.1 ∙ none)
  last_of_array s (Some x) t h = h

  pub array_ends : HasTwoEnds {S = Items X n} array_steps array_steps_back array_into_iter_items
  array_ends = record { first = first_of_array; last = last_of_array }

  pub array_yields : (xs : List X) (it : Items X n) → array_into_iter_items it ≡ xs → AlwaysYields array_steps (λ x. x) it xs
  array_yields xs it e = subst (AlwaysYields array_steps (λ x. x) it) e
      (YieldsList-from_shown array_steps (λ x. x) array_into_iter_items (λ s t h. h.0) (λ s x t h. h) it).runs

-- copies of a slice's items
module _ {T : Type 0} where
  abbrev pub copied_rest : Copied (Iter T) → List T
  copied_rest it = iter_rest (copied_source it)

  pub copied_yields : (xs : List T) (it : Copied (Iter T)) → copied_rest it ≡ xs → AlwaysYields (copied_steps iter_steps) (λ x. x) it xs
  copied_yields xs it e = subst (AlwaysYields (copied_steps iter_steps) (λ x. x) it) e (Copied-slice it)
