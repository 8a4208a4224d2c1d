-- What a failed call leaves. C is the `is_clone` of an item's `Clone`.
use Rattle.std.specs.Prelude.{◌≡◌, ℕ, ◌+◌, ◌<◌, ◌≤◌, ◌⊎◌, List, length, take, drop, All, IsTrue, Result, IsOk, OnOk, OnErr}
use Rattle.std.specs.List.{AppendsClones}
use Rattle.std.specs.declared.clone.Clone as Clone
use Rattle.tinyvec_slots.specs.Clones.{RefusedAt, ClonesOver}
use Rattle.tinyvec.specs.View.{TinyView, Reserved, place_for}

-- A call that needs room for `need` items failed. Either there was no such room, the allocator refused it, and nothing
-- changed. Or the room was granted, as when the call succeeds, and P says which clone failed then.
abbrev pub RefusedFor : {T : Type 0} → ℕ → Type 0 → TinyView T → TinyView T → Type 0
RefusedFor need P old new =
    ((old.place.capacity < need) × (new ≡ old)) ⊎ ((new.place ≡ place_for Reserved need old.place) × P)

-- if the list is inline, its first n spare slots hold clones of xs
abbrev pub ClonesBehind : {T : Type 0} → (T → T → Type 0) → List T → ℕ → TinyView T → TinyView T → Type 0
ClonesBehind C xs n old new = IsTrue new.place.inline → ClonesOver C xs n old.spare new.spare

-- clones of xs were appended, with this result, to a list that has room for them
pub record ClonesInRoom {T X E : Type 0} (g : Clone.Ghosts T) (xs : List T) (old new : TinyView T)
    (result : Result X E) : Type 0 where
  pub items : OnOk result (AppendsClones g.is_clone old.items new.items xs)
  pub spare : OnOk result (new.spare ≡ drop (length xs) old.spare)
  pub place : new.place ≡ old.place
  pub fits : length new.items ≤ new.place.capacity
  pub kept : OnErr result (new.items ≡ old.items)
  pub refused : OnErr result ((j : ℕ) × RefusedAt g.is_infallible xs j × ClonesBehind g.is_clone (take j xs) j old new)
  pub succeeds : All g.is_infallible xs → IsOk result

-- Appending clones of xs failed. If only a clone was refused, the reservation stays, and an inline list's first j spare slots hold
-- the clones made.
abbrev pub ClonesRefused : {T : Type 0} → Clone.Ghosts T → List T → TinyView T → TinyView T → Type 0
ClonesRefused g xs old new = RefusedFor (length old.items + length xs)
    ((j : ℕ) × RefusedAt g.is_infallible xs j × ClonesBehind g.is_clone (take j xs) j old new) old new
