-- What calls do to a `Vec` that has room: they keep its capacity.
use Rattle.std.specs.Prelude.{◌≡◌, ℕ, List, Result, OnOk, OnErr, Vec, vec_capacity}
use Rattle.std.specs.List.{AppendsClones}
use Rattle.std.specs.declared.clone.Clone as Clone
use Rattle.tinyvec_slots.specs.Clones.{RefusedAt}
pub use Rattle.tinyvec_slots.specs.Puts.{HeapBecomes}

module _ {T Z : Type 0} where
  -- a call that was to append clones of xs returned r, and took `old` to `new`
  pub record PushesClones {X E : Type 0} (g : Clone.Ghosts T) (xs : List T) (r : Result X E) (old new : Vec T Z) : Type 0 where
    pub items : OnOk r (AppendsClones g.is_clone old.items new.items xs)
    pub kept : OnErr r (new.items ≡ old.items)
    pub refused : OnErr r ((j : ℕ) × RefusedAt g.is_infallible xs j)
    pub capacity : vec_capacity new ≡ vec_capacity old
