-- Lists of clones, and what a call that clones leaves if a clone was refused. C is the `is_clone` of an item's `Clone`.
use Rattle.std.specs.Prelude.{◌≡◌, ℕ, ◌+◌, ◌-◌, ◌<◌, ◌≤◌, List, ◌++◌, All, length, take, drop, replicate, slice_range, if◌then◌else◌, is_ok, Result, IsOk, OnOk, OnErr}
use Rattle.std.specs.declared.clone.Clone as Clone
use Rattle.std.specs.List.{HoldsAt, AllZip, AppendsClones}
use Rattle.tinyvec_slots.specs.Slots.{Slots, AreDefaults, items_in as list_of, spare_in as spare_of, len_in}

-- a clone equals its original, as that of a number does
abbrev pub ClonesAreEqual : {T : Type 0} → (T → T → Type 0) → Type 0
ClonesAreEqual {T} C = (x y : T) → C x y → y ≡ x

-- ys are clones of the elements of xs, in order
pub record AreClones {T : Type 0} (C : T → T → Type 0) (xs ys : List T) : Type 0 where
  pub each : AllZip C xs ys
  pub len : length ys ≡ length xs
  pub if_clones_equal : ClonesAreEqual C → ys ≡ xs

-- xs has an element k, and I does not hold of it: with the `is_infallible` of an item's `Clone`, its clone can be refused
abbrev pub RefusedAt : {T : Type 0} → (T → Type 0) → List T → ℕ → Type 0
RefusedAt I xs k = (k < length xs) × HoldsAt (λ x. ¬ (I x)) xs k

-- the n clones of xs replace the first n elements of `old`
pub record ClonesOver {T : Type 0} (C : T → T → Type 0) (xs : List T) (n : ℕ) (old new : List T) : Type 0 where
  pub made : List T
  pub clones : AllZip C xs made
  pub count : length made ≡ n
  pub written : new ≡ made ++ drop n old

-- the same over the elements from `start` on
pub record ClonesOverFrom {T : Type 0} (C : T → T → Type 0) (start : ℕ) (xs : List T) (n : ℕ) (old new : List T) : Type 0 where
  pub made : List T
  pub clones : AllZip C xs made
  pub count : length made ≡ n
  pub written : new ≡ take start old ++ made ++ drop (start + n) old

-- A call that writes clones of xs returned r. `Written ys n` says that the n clones of ys are written. The first refused clone, of
-- element j, ended it.
pub record WritesClones {T R E : Type 0} (g : Clone.Ghosts T) (Written : List T → ℕ → Type 0) (xs : List T) (r : Result R E) : Type 0 where
  pub ok : OnOk r (Written xs (length xs))
  pub refused : OnErr r ((j : ℕ) × RefusedAt g.is_infallible xs j × Written (take j xs) j)
  pub succeeds : All g.is_infallible xs → IsOk r

-- A call that appends clones of xs, over the first spare slots, took `old` to `new` and returned r.
pub record AddsClones {T R E : Type 0} (g : Clone.Ghosts T) (xs : List T) (r : Result R E) (old new : Slots T) : Type 0 where
  pub items : OnOk r (AppendsClones g.is_clone (list_of old) (list_of new) xs)
  pub len : OnOk r (len_in new ≡ len_in old + length xs)
  pub if_clones_equal : OnOk r (ClonesAreEqual g.is_clone → list_of new ≡ list_of old ++ xs)
  pub spare : OnOk r (spare_of new ≡ drop (length xs) (spare_of old))
  pub kept : OnErr r (list_of new ≡ list_of old)
  -- the first `j` spare slots hold the clones made
  pub refused : OnErr r ((j : ℕ) × RefusedAt g.is_infallible xs j × ClonesOver g.is_clone (take j xs) j (spare_of old) (spare_of new))
  pub succeeds : All g.is_infallible xs → IsOk r

-- A call that appends clones of xs, or nothing, took the list `old` to `new` and returned r.
pub record AppendsAllOrNone {T R E : Type 0} (C : T → T → Type 0) (xs : List T) (r : Result R E) (old new : List T) : Type 0 where
  pub items : OnOk r (AppendsClones C old new xs)
  pub len : length new ≡ (if is_ok r then length old + length xs else length old)
  pub if_clones_equal : ClonesAreEqual C → new ≡ (if is_ok r then old ++ xs else old)
  pub kept : OnErr r (new ≡ old)

-- A call that makes the list n items long took `old` to `new` and returned r. It truncates the list, or fills it up with clones
-- of x.
pub record ResizesByClones {T R E : Type 0} (g : Clone.Ghosts T) (n : ℕ) (x : T) (r : Result R E) (old new : Slots T) : Type 0 where
  pub items : OnOk r (AppendsClones g.is_clone (take n (list_of old)) (list_of new) (replicate (n - len_in old) x))
  pub len : OnOk r (len_in new ≡ n)
  pub if_clones_equal : OnOk r (ClonesAreEqual g.is_clone → list_of new ≡ take n (list_of old) ++ replicate (n - len_in old) x)
  pub spare : OnOk r (len_in old ≤ n → spare_of new ≡ drop (n - len_in old) (spare_of old))
  pub kept : OnErr r (list_of new ≡ list_of old)
  -- the first `j` spare slots hold the clones made
  pub refused : OnErr r ((j : ℕ) × (j < n - len_in old) × ¬ (g.is_infallible x) × ClonesOver g.is_clone (replicate j x) j (spare_of old) (spare_of new))
  pub succeeds : g.is_infallible x → IsOk r

-- new is clones of xs, followed by `old`
abbrev pub ClonesBefore : {T : Type 0} → (T → T → Type 0) → List T → List T → List T → Type 0
ClonesBefore {T} C xs old new = (ys : List T) × AllZip C xs ys × (new ≡ ys ++ old)

-- A call that truncates the list to n items, and writes clones of x into the vacated slots from the last on, took `old` to `new`
-- and returned r.
pub record CutsToClones {T R E : Type 0} (g : Clone.Ghosts T) (n : ℕ) (x : T) (r : Result R E) (old new : Slots T) : Type 0 where
  pub items : OnOk r (list_of new ≡ take n (list_of old))
  pub spare : OnOk r (ClonesBefore g.is_clone (replicate (len_in old - n) x) (spare_of old) (spare_of new))
  pub if_clones_equal : OnOk r (ClonesAreEqual g.is_clone → spare_of new ≡ replicate (len_in old - n) x ++ spare_of old)
  -- the list is shorter by the j slots that hold the clones made
  pub refused : OnErr r ((j : ℕ) × (j < len_in old - n) × ¬ (g.is_infallible x) × (list_of new ≡ take (len_in old - j) (list_of old))
      × ClonesBefore g.is_clone (replicate j x) (spare_of old) (spare_of new))
  pub succeeds : g.is_infallible x → IsOk r

-- A `clone_from` that was refused a clone took the list `olds` to `news`, which is cut to m items, the lesser of the two
-- lengths. `made`, k of these, are clones. If the list is in slots, `more`, j further clones, follow the defaults in the
-- vacated slots.
pub record ClonesInPart {T : Type 0} (D I : T → Type 0) (C : T → T → Type 0) (source olds news : List T) (m : ℕ) (in_slots : Type 0) (spares behind : List T) : Type 0 where
  pub k : ℕ
  pub j : ℕ
  pub made : List T
  pub within : k ≤ m
  pub in_order : 0 < j → k ≡ m
  pub refused_at : RefusedAt I source (k + j)
  pub clones : AllZip C (take k source) made
  pub listed : news ≡ made ++ slice_range olds k m
  pub left : in_slots → (freed : List T) × AreDefaults D (length olds - m) freed
      × (more : List T) × AllZip C (slice_range source m (m + j)) more × (behind ≡ freed ++ more ++ drop j spares)
