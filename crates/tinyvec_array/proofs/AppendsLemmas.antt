-- Calls that append to a vector over a lent slice, one after another.
use Rattle.std.proofs.Common.{◌≡◌, ◌∙◌, ◌-◌, ◌∷◌, List, [], ◌++◌, ap, length, drop, append_assoc, length-append}
use Rattle.std.proofs.lemmas.List.{drop-drop, length-drop}
use Rattle.std.specs.List.{flat_map}
use Rattle.tinyvec_array.specs.Appends.{LentVec, Appends}
use Rattle.tinyvec_array.specs.SliceVec.{slice_items, slice_spare, slice_slots}
use Rattle.tinyvec_array.specs.View.{view, Becomes, NothingVacated}
use Rattle.tinyvec_array.specs.ViewLaws.{used_by}
use Rattle.tinyvec_array.proofs.Named.{lent_slots}
use Rattle.tinyvec_array.proofs.ViewLemmas.{owner_sees}

module _ {T : Type 0} where
  -- what a call of such a vector ensures, as `push`
  pub appended : (xs : List T) (u v : LentVec T) → Becomes NothingVacated (view lent_slots u) (view lent_slots v) (slice_items u ++ xs) → Appends xs u v
  appended xs u v h = record {
    same_reference = ap (λ p. p.lender) h.place;
    items = h.items;
    spare = used_by NothingVacated _ _ _ _ (length xs) (ap length h.items ∙ length-append (slice_items u) xs) h.slot_rule;
  }

  pub Appends-then : (xs ys : List T) (u v w : LentVec T) → Appends xs u v → Appends ys v w → Appends (xs ++ ys) u w
  Appends-then xs ys u v w first second = record {
    same_reference = second.same_reference ∙ first.same_reference;
    items = second.items ∙ ap (λ l. l ++ ys) first.items ∙ append_assoc _ xs ys;
    spare = cc (second.spare, first.spare, drop-drop (length ys) (length xs) (slice_spare u), length-append xs ys);
  }

  -- how many spare slots are left
  pub length-spare : (xs : List T) (u v : LentVec T) → Appends xs u v → length (slice_spare v) ≡ length (slice_spare u) - length xs
  length-spare xs u v step = ap length step.spare ∙ length-drop (length xs) (slice_spare u)

  -- Of a loop that appends what `f` says of each of `xs`: what appends the others from now on has appended all.
  pub appends_rest : {X : Type 0} (f : X → List T) (x : X) (all : List T) (xs more : List X) (first now next : LentVec T) → xs ≡ x ∷ more
      → Appends (f x) now next
      → ((end : LentVec T) → Appends (flat_map f xs) now end → Appends all first end)
      → (end : LentVec T) → Appends (flat_map f more) next end → Appends all first end
  appends_rest f x all xs more first now next cut step before end rest =
      before end (rw cut (Appends-then (f x) (flat_map f more) now next end step rest))

  -- what the owner of the slots sees where all of them were spare
  pub owner_sees_appended : (xs old : List T) (u v : LentVec T) → slice_items u ≡ [] → slice_spare u ≡ old → Appends xs u v
      → slice_slots v ≡ xs ++ drop (length xs) old
  owner_sees_appended xs old u v none all step =
      owner_sees v xs (drop (length xs) old) (step.items ∙ ap (λ list. list ++ xs) none) (step.spare ∙ ap (drop (length xs)) all)
