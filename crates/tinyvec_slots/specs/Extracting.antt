-- What a contract sees of an `ExtractIf`.
use Rattle.std.specs.Prelude.{◌≡◌, ℕ, ◌+◌, ◌-◌, ◌≤◌, Bool, List, ◌++◌, length, take, drop, slice_range, Option}
use Rattle.std.specs.Borrow.{GName, MutBor}
use Rattle.std.specs.Fn.{CalledAtMut, Mut}
use Rattle.std.specs.Iterator.Runs.{EveryRun, AllItems}
use Rattle.std.specs.List.Retain.{ExtractsNext, IsChosenBy}
use Rattle.tinyvec_slots.specs.declared.extracting.ExtractIf.{ExtractIf}

module _ {V F T : Type 0} where
  -- the ghost name of the reference to the vector
  abbrev pub extract_lender : ExtractIf V F T → GName
  extract_lender e = e.vec.ghost_name

  -- the vector meanwhile
  abbrev pub extract_vec : ExtractIf V F T → V
  extract_vec e = e.vec.now

  -- the closure
  abbrev pub extract_closure : ExtractIf V F T → F
  extract_closure e = e.pred

  -- how many items of the range the closure was not called with
  abbrev pub extract_left : ExtractIf V F T → ℕ
  extract_left e = e.end - e.front - e.gap

  module _ (items : V → List T) where
    -- the items before the range, and those of the range that the closure turned down
    abbrev pub extract_front : ExtractIf V F T → List T
    extract_front e = take e.front (items e.vec.now)

    -- the items of the range that the closure was not called with
    abbrev pub extract_rest : ExtractIf V F T → List T
    extract_rest e = slice_range (items e.vec.now) (e.front + e.gap) e.end

    -- the items after the range
    abbrev pub extract_back : ExtractIf V F T → List T
    extract_back e = drop e.end (items e.vec.now)

    -- these are in the list
    abbrev pub ExtractLies : ExtractIf V F T → Type 0
    ExtractLies e = (e.front + e.gap ≤ e.end) × (e.end ≤ length (items e.vec.now))

    -- the vector once e was dropped: what is in front, was not asked about and follows the range. `room` and `Truncated` are
    -- those of `CanCut`.
    pub record ExtractLeaves (room : V → ℕ) (Truncated : V → V → Type 0) (e : ExtractIf V F T) (v : V) : Type 0 where
      pub items_are : items v ≡ extract_front e ++ extract_rest e ++ extract_back e
      pub cut : Truncated (extract_vec e) v
      pub fits : length (items v) ≤ room v

    -- old and new borrow the same vector. What is cut from that of new is cut from that of old.
    pub record ExtractKeeps (Truncated : V → V → Type 0) (old new : ExtractIf V F T) : Type 0 where
      pub same_reference : extract_lender new ≡ extract_lender old
      pub back : extract_back new ≡ extract_back old
      pub lies : ExtractLies old → ExtractLies new
      pub cut : (v : V) → Truncated (extract_vec new) v → Truncated (extract_vec old) v

    -- `next` took old to new
    pub record ExtractSteps (Truncated : V → V → Type 0) (g : Mut F (MutBor T × Unit {0}) (Bool × (MutBor T × Unit {0})))
        (old : ExtractIf V F T) (item : Option T) (new : ExtractIf V F T) : Type 0 where
      pub kept : List T
      pub asked : ExtractsNext (CalledAtMut g) (extract_closure old) (extract_rest old) item (extract_closure new) kept (extract_rest new)
      pub front : extract_front new ≡ extract_front old ++ kept
      pub keeps : ExtractKeeps Truncated old new

    -- each item that calls of `next` yield is one that the closure chose, as it left it
    abbrev pub EachIsChosen : (V → V → Type 0) → Mut F (MutBor T × Unit {0}) (Bool × (MutBor T × Unit {0})) → Type 0
    EachIsChosen Truncated g = EveryRun (ExtractSteps Truncated g) (λ p. AllItems p (IsChosenBy (CalledAtMut g)))

    -- `extract_if` of the items from `start` up to `end` of what `old` refers to, by this closure, returned e: nothing is
    -- asked or moved yet
    pub record Extracts (Truncated : V → V → Type 0) (g : Mut F (MutBor T × Unit {0}) (Bool × (MutBor T × Unit {0})))
        (old : MutBor V) (start end : ℕ) (closure : F) (e : ExtractIf V F T) : Type 0 where
      pub vec : extract_vec e ≡ old.now
      pub same_reference : extract_lender e ≡ old.ghost_name
      pub closure_is : extract_closure e ≡ closure
      pub front : extract_front e ≡ take start (items old.now)
      pub rest : extract_rest e ≡ slice_range (items old.now) start end
      pub back : extract_back e ≡ drop end (items old.now)
      pub lies : ExtractLies e
      pub runs : EachIsChosen Truncated g
