-- What a contract sees of a splice. `items`, `Kept`, `room` and `Grown` are those of the vector's `CanSplice`.
use Rattle.std.specs.Prelude.{◌≡◌, ℕ, ◌+◌, ◌≤◌, false, List, length, take, drop, slice_range, Option, Result, IsOk, OnErr, IfErr}
use Rattle.std.specs.Borrow.{GName, MutBor}
use Rattle.std.specs.declared.iter.Fuse.{Fuse}
use Rattle.std.specs.declared.iter.Iterator as Iterator
use Rattle.std.specs.Iterator.{YieldsLast}
use Rattle.std.specs.Iterator.Adapters.{fuse_done, fuse_source, fuse_steps}
use Rattle.tinyvec_slots.specs.Ends.{End, TakesFromEnds, RunsWord}
use Rattle.tinyvec_slots.specs.Filling.{ShowsItems}
use Rattle.tinyvec_slots.specs.Fused.{FusedCan, fused_rest}
use Rattle.tinyvec_slots.specs.Replacing.{FusedYields, PutsBetween}
use Rattle.tinyvec_slots.specs.Gap.{gap_len, gap_view, GapCanStep}
use Rattle.tinyvec_slots.specs.AnySplice.{SpliceView, SpliceBegins, Splices, SplicesBack, Finishes, FinishesWith}
use Rattle.tinyvec_slots.specs.SplicedByWord.{SplicedByWord}
use Rattle.tinyvec_slots.specs.declared.no_room.NoRoom.{NoRoom}
use Rattle.tinyvec_slots.specs.declared.splice.Splice.{Splice}

module _ {V I : Type 0} where
  -- `s.len()`
  abbrev pub splice_len : Splice V I → ℕ
  splice_len s = gap_len s.gap

  -- the rest of the replacement
  abbrev pub splice_replacement : Splice V I → I
  splice_replacement s = s.replacement

  -- the vector meanwhile
  abbrev pub splice_vec : Splice V I → V
  splice_vec s = s.vec.now

  -- the ghost name of the reference to the vector
  abbrev pub splice_lender : Splice V I → GName
  splice_lender s = s.vec.ghost_name

module _ {V T : Type 0} (items : V → List T) where
  -- the parts of a splice: front, removed items that are left, back, rest of the replacement, and touches
  abbrev pub splice_view : {I : Type 0} → Splice V I → SpliceView I T
  splice_view s = gap_view s.gap s.replacement (items s.vec.now)

  -- what preceded the range, and the replacement items placed from the front
  abbrev pub splice_front : {I : Type 0} → Splice V I → List T
  splice_front s = (splice_view s).front

  -- the removed items that are left
  abbrev pub splice_left : {I : Type 0} → Splice V I → List T
  splice_left s = (splice_view s).left

  -- the replacement items placed from the back, and what followed the range
  abbrev pub splice_back : {I : Type 0} → Splice V I → List T
  splice_back s = (splice_view s).back

  -- the number of touches since `splice`
  abbrev pub splice_touches : {I : Type 0} → Splice V I → ℕ
  splice_touches s = (splice_view s).touches

  -- the removed items that are left are in the list
  abbrev pub SpliceCanStep : {I : Type 0} → Splice V (Fuse I) → Type 0
  SpliceCanStep s = GapCanStep s.gap (fuse_done s.replacement) (length (items (splice_vec s)))

  -- the removed items that are left are in the list, and `next` of the replacement may be called
  abbrev pub SpliceCanNext : {I : Type 0} → (I → Type 0) → Splice V (Fuse I) → Type 0
  SpliceCanNext can s = SpliceCanStep s × FusedCan can s.replacement

  -- `finish` of s returned the result, and left v
  pub record SpliceEnds {I : Type 0} (room : V → ℕ) (Grown : V → V → Type 0) (iter : Iterator.Ghosts I T)
      (s : Splice V (Fuse I)) (result : Result Unit (NoRoom T (Fuse I))) (v : V) : Type 0 where
    pub finished : Finishes (fuse_steps iter.next_gives) (room v) (splice_view s) result (items v)
    pub changes : Grown (splice_vec s) v
    pub no_shorter : OnErr result (length (items (splice_vec s)) ≤ length (items v))
    -- the returned replacement can be iterated further
    pub goes_on : IfErr result (λ refused. FusedCan iter.can_next refused.rest)
    -- The same of a replacement that shows its items, and of one whose items are known, as those of a `Vec`, a range or a slice. If
    -- there is room for them it allocates nothing.
    pub listed : (rest : I → List T) → ShowsItems iter.next_gives rest
        → FinishesWith (fused_rest rest) (room v) (splice_view s) result (items v)
    pub succeeds : (rest : I → List T) → ShowsItems iter.next_gives rest
        → length (splice_front s) + length (fused_rest rest (splice_replacement s)) + length (splice_back s)
        ≤ room (splice_vec s) → IsOk result
    pub known : (xs : List T) → FusedYields iter.next_gives (splice_replacement s) xs
        → PutsBetween (room (splice_vec s)) (splice_front s) xs (splice_back s) result (items v)

  -- old and new borrow the same vector, of which all but the items is kept
  pub record SpliceKeeps {I : Type 0} (Kept : V → V → Type 0) (old new : Splice V (Fuse I)) : Type 0 where
    pub same_reference : splice_lender new ≡ splice_lender old
    pub kept : Kept (splice_vec old) (splice_vec new)
    pub ready : SpliceCanStep old → SpliceCanStep new

  module _ {I : Type 0} (Kept : V → V → Type 0) (gives : Fuse I → Option T → Fuse I → Type 0) where
    -- `next` took old to new: it returned the first removed item that was left, and placed the next item of the replacement
    -- at the front
    abbrev pub SpliceSteps : Splice V (Fuse I) → Option T → Splice V (Fuse I) → Type 0
    SpliceSteps = Splices splice_view (SpliceKeeps Kept) gives

    -- `next_back` took old to new: it returned the last removed item that was left, and placed the last item of the
    -- replacement at the back
    abbrev pub SpliceStepsBack : Splice V (Fuse I) → Option T → Splice V (Fuse I) → Type 0
    SpliceStepsBack = SplicesBack splice_view (SpliceKeeps Kept) gives

  module _ {I : Type 0} (Kept : V → V → Type 0) (gives : I → Option T → I → Type 0) where
    -- However calls of `next` and `next_back` follow one another, they take from the two ends of the removed items, and what they
    -- placed is at its end. `rest` shows what the replacement still yields, by `next_back` from the back.
    abbrev pub SplicesFromEnds : Splice V (Fuse I) → Type 0
    SplicesFromEnds s = (rest : I → List T) → ShowsItems gives rest
        → (word : List End) (answers : List (Option T)) (later : Splice V (Fuse I))
        → RunsWord (SpliceSteps Kept (fuse_steps gives)) (SpliceStepsBack Kept (YieldsLast (fused_rest rest))) s word answers later
        → TakesFromEnds (splice_left s) word answers (splice_left later)
        × SplicedByWord splice_view (SpliceKeeps Kept) (fused_rest rest) s word later

    -- a splice of the items from `start` up to `end` of what `old` refers to: nothing is placed yet
    pub record SplicesFrom (old : MutBor V) (start end : ℕ) (replacement : I) (s : Splice V (Fuse I)) : Type 0 where
      pub begins : SpliceBegins (take start (items old.now)) (slice_range (items old.now) start end) (drop end (items old.now))
          (splice_view s) (splice_len s)
      pub replacement_is : fuse_source (splice_replacement s) ≡ replacement
      pub unasked : fuse_done (splice_replacement s) ≡ false
      pub vec : splice_vec s ≡ old.now
      pub same_reference : splice_lender s ≡ old.ghost_name
      pub ready : SpliceCanStep s
      pub both_ends : SplicesFromEnds s
