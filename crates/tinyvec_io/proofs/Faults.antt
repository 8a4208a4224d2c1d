-- The kind of the last fault.
use Rattle.std.proofs.Common.{◌≡◌, ◌∙◌, ℕ, ◌<◌, ◌⊎◌, inl, inr, zero, suc, List, [], ◌∷◌, length, Option, Some, Ok, refl, arith}
use Rattle.std.specs.declared.io.ErrorKind.{ErrorKind}
use Rattle.std.specs.declared.io.ErrorKind.TheVariants.{Interrupted, WriteZero}
use Rattle.tinyvec_io.specs.Counted.{write_fault_after}

-- the last fault is one of a retried call, or none is new
pub fault-then : {old mid new : Option ErrorKind} → (mid ≡ old) ⊎ (mid ≡ Some Interrupted) → (new ≡ mid) ⊎ (new ≡ Some Interrupted) → (new ≡ old) ⊎ (new ≡ Some Interrupted)
fault-then before (inr is) = inr is
fault-then (inl was) (inl same) = inl (same ∙ was)
fault-then (inr was) (inl same) = inr (same ∙ was)

-- a write of some bytes took none
pub none-written : (n : ℕ) (bytes : List ℕ) (old : Option ErrorKind) → n ≡ 0 → 0 < length bytes → write_fault_after (Ok n) bytes old ≡ Some WriteZero
none-written zero (byte ∷ bytes) old none some = refl
none-written zero [] old none some = absurd (omega arith)
none-written (suc n) bytes old none some = absurd (omega (arith, none))
