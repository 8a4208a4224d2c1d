-- What a step of a fused iterator says of its end.
use Rattle.std.proofs.Common.{◌≡◌, Bool, true, false, cond, Option, Some, None, List, [], ◌∷◌, ◌++◌, MatchOption, refl, sym, ap, ◌∙◌}
use Rattle.std.specs.Bool.{MatchBool}
use Rattle.std.specs.declared.iter.Fuse.{Fuse}
use Rattle.std.specs.Iterator.Adapters.{fuse_done, fuse_source, fuse_steps}
use Rattle.std.specs.Iterator.{YieldsLast}
use Rattle.tinyvec_slots.specs.Filling.{ShowsItems}
use Rattle.tinyvec_slots.specs.Fused.{fused_rest, HasTwoEnds}

false_from : (P Q : Type 0) (b : Bool) → MatchBool b P Q → (P → ⊥) → b ≡ false
false_from P Q true = λ m no. absurd (no m)
false_from P Q false = λ m no. refl

module _ {S A : Type 0} (gives : S → Option A → S → Type 0) where
  -- an item comes before the end
  pub not_ended : (s t : Fuse S) (x : A) → fuse_steps gives s (Some x) t → fuse_done s ≡ false
  not_ended s t x h = false_from _ _ (fuse_done s) h.0 (λ (e : Some x ≡ None). cc)

first_by : {A : Type 0} (G : Type 0) (d e : Bool) (r : Option A) (u v : List A)
    → (G → MatchOption r ((u ≡ []) × (v ≡ [])) (λ x. u ≡ x ∷ v))
    → MatchBool d (r ≡ None) G → MatchOption r (e ≡ true) (λ _. e ≡ false)
    → MatchOption r ((cond d [] u ≡ []) × (cond e [] v ≡ [])) (λ x. cond d [] u ≡ x ∷ cond e [] v)
first_by G true e None u v g m k = (refl, ap (λ b. cond b [] v) k)
first_by G true e (Some x) u v g m k = absurd (let no : Some x ≡ None = m in cc)
first_by G false e None u v g m k = ((g m).0, ap (λ b. cond b [] v) k)
first_by G false e (Some x) u v g m k = g m ∙ ap (λ b. x ∷ cond b [] v) (sym k)

last_by : {A : Type 0} (G : Type 0) (d e : Bool) (r : Option A) (u v : List A)
    → (G → MatchOption r ((u ≡ []) × (v ≡ [])) (λ x. u ≡ v ++ x ∷ []))
    → MatchBool d (r ≡ None) G → MatchOption r (e ≡ true) (λ _. e ≡ false)
    → MatchOption r ((cond d [] u ≡ []) × (cond e [] v ≡ [])) (λ x. cond d [] u ≡ cond e [] v ++ x ∷ [])
last_by G true e None u v g m k = (refl, ap (λ b. cond b [] v) k)
last_by G true e (Some x) u v g m k = absurd (let no : Some x ≡ None = m in cc)
last_by G false e None u v g m k = ((g m).0, ap (λ b. cond b [] v) k)
last_by G false e (Some x) u v g m k = g m ∙ ap (λ b. cond b [] v ++ x ∷ []) (sym k)

module _ {S A : Type 0} (gives : S → Option A → S → Type 0) (rest : S → List A) where
  -- a fused iterator gives the first of what is left, and then nothing more
  pub fused_first : ShowsItems gives rest → ShowsItems (fuse_steps gives) (fused_rest rest)
  fused_first first s r t h = first_by _ (fuse_done s) (fuse_done t) r (rest (fuse_source s)) (rest (fuse_source t)) (first _ _ _) h.0 h.1

  -- and so from the back
  pub fused_last : ((s : S) (r : Option A) (t : S) → gives s r t → YieldsLast rest s r t)
      → (s : Fuse S) (r : Option A) (t : Fuse S) → fuse_steps gives s r t → YieldsLast (fused_rest rest) s r t
  fused_last last s r t h = last_by _ (fuse_done s) (fuse_done t) r (rest (fuse_source s)) (rest (fuse_source t)) (last _ _ _) h.0 h.1

-- an iterator with two ends has two ends when it is fused
pub fused_ends : {S A : Type 0} (gives gives_back : S → Option A → S → Type 0) (rest : S → List A) → HasTwoEnds gives gives_back rest
    → HasTwoEnds (fuse_steps gives) (fuse_steps gives_back) (fused_rest rest)
fused_ends gives gives_back rest ends = record {
  first = fused_first gives rest ends.first;
  last = fused_last gives_back rest ends.last;
}
