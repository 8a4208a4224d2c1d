-- Two contents that are written and read, one behind the other.
use Rattle.std.proofs.Common.{◌≡◌, ℕ, ◌≤◌, inl, inr, List, Option, Err}
use Rattle.tinyvec_io.specs.Counted.{CountedView}
use Rattle.tinyvec_borsh.specs.declared.borsh_error.BorshError.{BorshError}
use Rattle.tinyvec_borsh.specs.declared.borsh_error.BorshError.TheVariants.{Ended}
use Rattle.tinyvec_borsh.specs.Fronts.{FrontsAreCut}
use Rattle.tinyvec_borsh.specs.Reading.{FailsFor, ReadsSpelling}
use Rattle.tinyvec_borsh.proofs.ItemByItem.{fails-after, fails-as, takes-then}
use Rattle.tinyvec_borsh.specs.Both.{SpellsBoth, InEither}

module _ {A B : Type 0} (SpellsA : A → List ℕ → Type 0) (SpellsB : B → List ℕ → Type 0) where
  pub takes-both : (a : A) (b : B) (old mid new : Option (List ℕ)) → ReadsSpelling (SpellsA a) old mid → ReadsSpelling (SpellsB b) mid new → ReadsSpelling (SpellsBoth SpellsA SpellsB (a, b)) old new
  takes-both a b old mid new p q = takes-then old mid new p q

module _ {A : Type 0} (Spells : A → List ℕ → Type 0) (Fits : A → Type 0) (ReasonA ReasonB : BorshError → List ℕ → Type 0) {R T U : Type 0} {remaining : R → Option (List ℕ)} {e : BorshError} where
  pub fails-first : {old new : CountedView R} → FailsFor {T = T} remaining ReasonA old new (Err e) → FailsFor {T = U} remaining (InEither Spells Fits ReasonA ReasonB) old new (Err e)
  fails-first failed = fails-as (λ f input is. inl is) failed

  pub fails-second : FrontsAreCut Spells Fits (ReasonA Ended) → (c : A) {old mid new : CountedView R} → ReadsSpelling (Spells c) (remaining old.inner) (remaining mid.inner) → Fits c → old.faults ≤ mid.faults → mid.failed ≡ old.failed
      → FailsFor {T = T} remaining ReasonB mid new (Err e) → FailsFor {T = U} remaining (InEither Spells Fits ReasonA ReasonB) old new (Err e)
  fails-second fronts c t fits grows same failed = fails-after (Spells c) t grows same (λ front back some p. inl (fronts c front back some fits p)) (λ f input p. inr (record { content = c; valid = fits; parts = p })) failed
