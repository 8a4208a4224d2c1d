-- What a call leaves that puts the items of a replacement in the place of a range, if these items are known.
use Rattle.std.specs.Prelude.{◌≡◌, ℕ, ◌+◌, ◌≤◌, false, List, ◌++◌, length, Option, Result, IsOk, OnOk}
use Rattle.std.specs.declared.iter.Fuse.{Fuse}
use Rattle.std.specs.Iterator.{AlwaysYields}
use Rattle.std.specs.Iterator.Adapters.{fuse_done, fuse_source}

-- a fused iterator has not ended, and every run of its source yields xs and then `None`
abbrev pub FusedYields : {S A : Type 0} → (S → Option A → S → Type 0) → Fuse S → List A → Type 0
FusedYields steps s xs = (fuse_done s ≡ false) × AlwaysYields steps (λ x. x) (fuse_source s) xs

-- A call that puts xs between `before` and `after` had this result, and left `list`. It succeeds if the three lists have at
-- most `room` items.
abbrev pub PutsBetween : {T X E : Type 0} → ℕ → List T → List T → List T → Result X E → List T → Type 0
PutsBetween room before xs after result list = OnOk result (list ≡ before ++ xs ++ after)
    × (length before + length xs + length after ≤ room → IsOk result × (list ≡ before ++ xs ++ after))
