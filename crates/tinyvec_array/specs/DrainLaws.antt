-- The laws of `CanDrain` of a vector over slots, whose drain takes the items of its range out of the first spare slots.
use Rattle.std.specs.Prelude.{codes}
use Rattle.std.proofs.Common.{◌≡◌, ℕ, ◌+◌, ◌≤◌, List, ◌++◌, length, take, drop, refl, sym, ap, ◌∙◌, arith, take_at, drop_at, length-take-le}
use Rattle.std.specs.List.{remove_range}
use Rattle.tinyvec_slots.specs.Slots.{AreDefaults}
use Rattle.tinyvec_slots.specs.declared.can_drain.CanDrain as CanDrain
use Rattle.tinyvec_array.specs.ArrayVec.{SameLender}
use Rattle.tinyvec_array.specs.View.{view}
use Rattle.tinyvec_array.specs.declared.slots.Slots as Storage
use Rattle.tinyvec_array.specs.declared.array_vec.ArrayVec.{ArrayVec}

-- lists of one length that are the same without a range are the same before and after it
same_around : {T : Type 0} (xs ys : List T) (i j : ℕ) → length xs ≡ length ys → i ≤ length ys → remove_range xs i j ≡ remove_range ys i j
    → (take i xs ≡ take i ys) × (drop j xs ≡ drop j ys)
same_around xs ys i j long le same =
    let front = length-take-le i xs (omega (arith, long, le)) in
    let behind = length-take-le i ys le in (
      sym (take_at (take i xs) (drop j xs) i front) ∙ ap (take i) same ∙ take_at (take i ys) (drop j ys) i behind,
      sym (drop_at (take i xs) (drop j xs) i front) ∙ ap (drop i) same ∙ drop_at (take i ys) (drop j ys) i behind,
    )

module _ {S T L : Type 0} (g : Storage.Ghosts S T L) where
  -- the same slots are lent, and the list is the same
  abbrev pub DrainKept : ArrayVec S L → ArrayVec S L → Type 0
  DrainKept old new = SameLender g old new × ((view g new).items ≡ (view g old).items)

  pub drain_kept_same : (v : ArrayVec S L) → DrainKept v v
  drain_kept_same v = (record { same_reference = refl; slot_count = refl }, refl)

  pub drain_kept_then : (u v w : ArrayVec S L) → DrainKept u v → DrainKept v w → DrainKept u w
  drain_kept_then u v w h k = (
    record { same_reference = k.0.same_reference ∙ h.0.same_reference; slot_count = k.0.slot_count ∙ h.0.slot_count },
    k.1 ∙ h.1,
  )

  module _ (D : T → Type 0) where
    -- the spare slots of the range hold defaults, and the others are the same
    abbrev pub DrainEnded : ℕ → ℕ → ArrayVec S L → ArrayVec S L → Type 0
    DrainEnded start gap old new = DrainKept old new × (start + gap ≤ length (view g old).spare → (ds : List T) × AreDefaults D gap ds
        × ((view g new).spare ≡ take start (view g old).spare ++ ds ++ drop (start + gap) (view g old).spare))

    -- what `CanDrain` says of the vector
    abbrev pub drain_of : CanDrain.Ghosts (ArrayVec S L) T
    drain_of = record { drained_list = λ v. (view g v).spare; Kept = DrainKept; Ended = DrainEnded; drain_word = codes "ArrayVecDrain" }

    pub drain_kept_ended : (start gap : ℕ) (u v w : ArrayVec S L) → DrainKept u v → length (view g v).spare ≡ length (view g u).spare
        → remove_range (view g v).spare start (start + gap) ≡ remove_range (view g u).spare start (start + gap)
        → DrainEnded start gap v w → DrainEnded start gap u w
    drain_kept_ended start gap u v w kept long others ended = (
      drain_kept_then u v w kept ended.0,
      λ fits.
          let left = ended.1 (omega (arith, long, fits)) in
          let parts = same_around (view g v).spare (view g u).spare start (start + gap) long (omega (arith, fits)) others in (
            left.0,
            left.1,
            left.2 ∙ ap (λ xs. xs ++ left.0 ++ drop (start + gap) (view g v).spare) parts.0
                ∙ ap (λ xs. take start (view g u).spare ++ left.0 ++ xs) parts.1,
          ),
    )
