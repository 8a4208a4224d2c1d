-- An item that is read, and then pushed.
use Rattle.std.proofs.Common.{◌≡◌, ap, sym, ℕ, ◌<◌, ◌≤◌, inl, inr, List, [], ◌∷◌, length, Err, refl, subst, append-nil, length-append, arith}
use Rattle.std.proofs.KnownBytes.{Consumes-nil}
use Rattle.tinyvec_borsh.specs.declared.borsh_error.BorshError.{BorshError}
use Rattle.tinyvec_borsh.specs.declared.borsh_error.BorshError.TheVariants.{Ended, Memory}
use Rattle.tinyvec_borsh.specs.Fronts.{FrontsAreCut}
use Rattle.tinyvec_borsh.specs.Reading.{FailsFor, ReadsSpelling}
use Rattle.tinyvec_borsh.specs.TwoParts.{joined}
use Rattle.tinyvec_borsh.proofs.ItemByItem.{WantsItem, fails-as, maybe-any, maybe-behind, maybe-so, none-failed, one-item}
use Rattle.tinyvec_io.specs.Counted.{CountedView}
use Rattle.std.specs.Prelude.{Option}

module _ {C : Type 0} (Spells : C → List ℕ → Type 0) (Fits : C → Type 0) (Reason : BorshError → List ℕ → Type 0) (n : ℕ) (IsFull IsLast : Type 0) {R U : Type 0} {remaining : R → Option (List ℕ)} {old new : CountedView R} where
  -- the first was not read
  pub fails-first-item : {T : Type 0} {e : BorshError} → 0 < n → FailsFor {T = T} remaining Reason old new (Err e) → FailsFor {T = U} remaining (WantsItem Spells Fits Reason n IsFull IsLast) old new (Err e)
  fails-first-item some failed = fails-as (λ f input why. inl (record { items = []; fewer = some; fit = tt; parts = joined [] input refl why })) failed

  -- it was read, and found no room, and further ones are to come
  pub refused-item : (c : C) → 1 < n → FrontsAreCut Spells Fits (Reason Ended) → Reason Ended [] → IsFull → ReadsSpelling (Spells c) (remaining old.inner) (remaining new.inner) → Fits c
      → old.faults ≤ new.faults → new.failed ≡ old.failed → FailsFor {T = U} remaining (WantsItem Spells Fits Reason n IsFull IsLast) old new (Err Memory)
  refused-item c more fronts none full t fit grows same = record {
    err = maybe-behind _ _ (λ _. Unit {0}) _ t (λ input p. inr (refl, full, inr (record { content = c; valid = fit; parts = p }))) (maybe-any _);
    taken = record {
      bytes = t.0;
      taken = t.2;
      end = λ is. cc;
      needed = λ front back some is. inl (record { items = []; fewer = omega (arith, more); fit = tt; parts = joined [] front refl (fronts c front back some fit (subst (Spells c) is t.1)) });
      short = λ _. inl (record { items = c ∷ []; fewer = more; fit = (fit, tt); parts = record { first = t.0; rest = []; is_first = one-item Spells c t.0 t.1; is_rest = none; whole = sym (append-nil t.0) } });
    };
    grows = grows;
    failed = none-failed same;
  }

-- room for the last was refused, and none of it was read
pub refused-last : {C : Type 0} (Spells : C → List ℕ → Type 0) (Fits : C → Type 0) (Reason : BorshError → List ℕ → Type 0) (n : ℕ) (IsFull IsLast : Type 0) {R U : Type 0} {remaining : R → Option (List ℕ)} {reader : CountedView R}
    → 0 < n → Reason Ended [] → IsFull → IsLast → FailsFor {T = U} remaining (WantsItem Spells Fits Reason n IsFull IsLast) reader reader (Err Memory)
refused-last Spells Fits Reason n IsFull IsLast some none full last = record {
  err = maybe-so _ (λ _. Unit {0}) _ (λ input _. inr (refl, full, inl last)) (maybe-any _);
  taken = record {
    bytes = [];
    taken = Consumes-nil _;
    end = λ is. cc;
    needed = λ front back more is. absurd (omega (arith, more, ap length is, length-append front back));
    short = λ _. inl (record { items = []; fewer = some; fit = tt; parts = joined [] [] refl none });
  };
  grows = omega arith;
  failed = none-failed refl;
}
