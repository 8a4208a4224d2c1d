-- What a count can be.
use Rattle.std.proofs.Common.{ℕ, ◌-◌, ◌^◌, ◌<◌, inl, inr, List, arith}
use Rattle.tinyvec_borsh.specs.Items.{HasTooMany, IsCount, ListReason}
use Rattle.tinyvec_borsh.specs.declared.borsh_error.BorshError.{BorshError}
use Rattle.tinyvec_borsh.specs.declared.borsh_error.BorshError.TheVariants.{InvalidLength}
use Rattle.tinyvec_borsh.specs.NumberLaws.{number-below}

pub count-below : (n : ℕ) (count : List ℕ) → IsCount n count → n < 2 ^ 64
count-below n count p = omega (arith, p.value, number-below count 8 p.many p.small)

module _ {C : Type 0} (Spells : C → List ℕ → Type 0) (Fits : C → Type 0) where
  -- a list that has room for every count is never too long, but for what is in its items
  pub never-too-many : (input : List ℕ) → HasTooMany Spells Fits (2 ^ 64 - 1) input → ⊥
  never-too-many input m = omega (arith, m.above, count-below m.len m.count m.counted)

  pub never-too-long : (Reason : BorshError → List ℕ → Type 0) (Allocates : List ℕ → Type 0) → ((input : List ℕ) → Reason InvalidLength input → ⊥) → (input : List ℕ) → ListReason Spells Fits Reason Allocates (2 ^ 64 - 1) InvalidLength input → ⊥
  never-too-long Reason Allocates none input long = elim long [ inl many ↦ never-too-many input many | inr item ↦ none item.tail item.left ]
