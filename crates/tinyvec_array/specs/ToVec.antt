-- What the calls leave that move a list into a `Vec`.
use Rattle.std.specs.Prelude.{◌≡◌, ℕ, [], Result, IsOk, IfOk, OnOk, OnErr, Vec, vec_items, vec_capacity}
use Rattle.std.specs.Global.{Global}
use Rattle.tinyvec_array.specs.View.{view, Becomes}
use Rattle.tinyvec_array.specs.declared.slots.Slots as Storage
use Rattle.tinyvec_array.specs.declared.array_vec.ArrayVec.{ArrayVec}

-- the list of old went into a `Vec` that has room for n items, and for no more, or else nothing changed
pub record DrainsToVec {S T L E : Type 0} (g : Storage.Ghosts S T L) (D : T → Type 0) (n : ℕ) (old new : ArrayVec S L) (result : Result (Vec T Global) E) : Type 0 where
  pub moved : IfOk result (λ v. vec_items v ≡ (view g old).items)
  pub exact : IfOk result (λ v. vec_capacity v ≡ n)
  pub emptied : OnOk result (Becomes D (view g old) (view g new) [])
  pub refused : OnErr result (new ≡ old)
  pub succeeds_empty : n ≡ 0 → IsOk result
