-- Examples of iterators. A list stands for an iterator whose state is the items to come.
use Rattle.std.proofs.Common.{◌≡◌, ℕ, List, [], ◌∷◌, Some, true, false, refl, rules}
use Rattle.std.specs.Prelude.{Ok, Err}
use Rattle.std.specs.declared.iter.Fuse.{Fuse}
use Rattle.std.specs.declared.slice.Iter.{Iter}
use Rattle.std.specs.declared.slice.IterMut.{IterMut}
use Rattle.std.specs.Slice.Iter.{iter_rest, iter_mut_rest}
use Rattle.std.specs.Iterator.{endless}
use Rattle.std.specs.Iterator.Adapters.{fuse_done, fuse_source}
use Rattle.tinyvec_slots.specs.Ends.{RunsWord, TakesFromEnds, back}
use Rattle.tinyvec_slots.specs.Filling.{IntoIterYields, ShowsItems, Fills, Extends, Collects, Iterates, IteratesMut}
use Rattle.tinyvec_slots.specs.Fused.{FusedCan, FusedFinite, fused_rest}
use Rattle.tinyvec_slots.specs.Replacing.{FusedYields}
use Rattle.tinyvec_array.specs.IntoIter.{GivesFirst, GivesLast, GivesFromEnds, IteratesOver}
use Rattle.tinyvec_slots.proofs.FillingLemmas.{fills_by, extends_full}
use Rattle.tinyvec_examples.proofs.words.Shown.{nums}

pub example-GivesFirst : GivesFirst (nums (1 ∷ 2 ∷ 3 ∷ [])) (Some 1) (2 ∷ 3 ∷ [])
example-GivesFirst = refl

pub example-GivesLast : GivesLast (nums (1 ∷ 2 ∷ 3 ∷ [])) (Some 3) (1 ∷ 2 ∷ [])
example-GivesLast = refl

pub example-ShowsItems : ShowsItems {A = ℕ} GivesFirst (λ left. left)
example-ShowsItems = λ s r t h. h

pub example-IntoIterYields : IntoIterYields {U = List ℕ} (λ xs it. it ≡ xs) GivesFirst (1 ∷ 2 ∷ []) (1 ∷ 2 ∷ [])
example-IntoIterYields = search rules

pub example-Fills : Fills {U = List ℕ} (λ xs it. it ≡ xs) GivesFirst (1 ∷ 2 ∷ 3 ∷ []) 2 (λ xs. xs ≡ 1 ∷ 2 ∷ []) (3 ∷ [])
example-Fills = fills_by _ _ _ _ _ (1 ∷ 2 ∷ 3 ∷ []) (1 ∷ 2 ∷ []) refl refl (3 ∷ []) (search rules)

pub example-Extends : Extends {U = List ℕ} (λ xs it. it ≡ xs) GivesFirst (1 ∷ 2 ∷ 3 ∷ []) 2 (λ xs. xs ≡ 1 ∷ 2 ∷ []) {R = ℕ} (Err (record { item = 3; rest = [] }))
example-Extends = extends_full _ _ _ _ _ (1 ∷ 2 ∷ 3 ∷ []) (1 ∷ 2 ∷ []) refl refl [] 3 refl (search rules)

pub example-Collects : (v : List ℕ) → Collects {U = List ℕ} (λ xs it. it ≡ xs) GivesFirst (1 ∷ []) 2 (λ v xs. v ≡ xs) (Ok v) → v ≡ 1 ∷ []
example-Collects v h = (h.known (1 ∷ []) (search rules) (search rules)).1

pub example-fused_rest : (s : Fuse (List ℕ)) → fuse_done s ≡ true → fused_rest (λ left. left) s ≡ []
example-fused_rest s done = search rules

pub example-FusedCan : (s : Fuse (List ℕ)) → fuse_done s ≡ true → FusedCan (λ left. ⊥) s
example-FusedCan s done = search rules

pub example-FusedYields : (s : Fuse (List ℕ)) → fuse_done s ≡ false → fuse_source s ≡ 1 ∷ [] → FusedYields GivesFirst s (1 ∷ [])
example-FusedYields s running source = search rules

pub example-IteratesOver : (left : List ℕ) → IteratesOver (1 ∷ 2 ∷ []) left → left ≡ 1 ∷ 2 ∷ []
example-IteratesOver left h = h.rest

pub example-Iterates : (it : Iter ℕ) → Iterates (1 ∷ 2 ∷ []) it → iter_rest it ≡ 1 ∷ 2 ∷ []
example-Iterates it h = h.rest

pub example-IteratesMut : (it : IterMut ℕ) → IteratesMut (1 ∷ 2 ∷ []) it → iter_mut_rest it ≡ 1 ∷ 2 ∷ []
example-IteratesMut it h = h.rest

pub example-GivesFromEnds : GivesFromEnds (nums (1 ∷ 2 ∷ [])) → RunsWord GivesFirst GivesLast (nums (1 ∷ 2 ∷ [])) (back ∷ []) (Some 2 ∷ []) (1 ∷ []) → TakesFromEnds (nums (1 ∷ 2 ∷ [])) (back ∷ []) (Some 2 ∷ []) (1 ∷ [])
example-GivesFromEnds h asked = h _ _ _ asked

pub example-FusedFinite : (s : Fuse (List ℕ)) → fuse_done s ≡ true → FusedFinite (λ left. endless) s
example-FusedFinite s done = search rules
