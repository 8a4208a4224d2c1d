-- The laws of `CanDrain` of a `TinyVec`, whose drain takes the items of its range out of the list.
use Rattle.std.specs.Prelude.{length}
use Rattle.std.specs.Prelude.{codes}
use Rattle.std.proofs.Common.{◌≡◌, ℕ, ◌+◌, subst}
use Rattle.std.specs.List.{remove_range}
use Rattle.tinyvec_slots.specs.declared.can_drain.CanDrain as CanDrain
use Rattle.tinyvec_array.specs.declared.slots.Slots as Storage
use Rattle.tinyvec.specs.View.{Becomes}
use Rattle.tinyvec.specs.TinyVec.{view}
use Rattle.tinyvec.specs.FrameLaws.{FrameOf}
use Rattle.tinyvec.specs.SpliceLaws.{frame_becomes}
use Rattle.tinyvec.specs.declared.tiny_vec.TinyVec.{TinyVec}

module _ {A T L : Type 0} (g : Storage.Ghosts A T L) (D : T → Type 0) where
  -- what precedes and follows these items of the list is left, in its place
  abbrev pub DrainEnded : ℕ → ℕ → TinyVec A T L → TinyVec A T L → Type 0
  DrainEnded start gap old new = Becomes D (view g old) (view g new) (remove_range (view g old).items start (start + gap))

  -- what `CanDrain` says of the vector
  abbrev pub tiny_drain_of : CanDrain.Ghosts (TinyVec A T L) T
  tiny_drain_of = record { drained_list = λ v. (view g v).items; Kept = FrameOf g; Ended = DrainEnded; drain_word = codes "TinyVecDrain" }

  pub frame_ended : (start gap : ℕ) (u v w : TinyVec A T L) → FrameOf g u v → length (view g v).items ≡ length (view g u).items
      → remove_range (view g v).items start (start + gap) ≡ remove_range (view g u).items start (start + gap)
      → DrainEnded start gap v w → DrainEnded start gap u w
  frame_ended start gap u v w kept long others ended =
      subst (Becomes D (view g u) (view g w)) others (frame_becomes D (view g u) (view g v) (view g w) _ kept ended)
