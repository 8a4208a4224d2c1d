-- What a contract sees of a drain, and what its calls do to it. `g` is the `CanDrain` of the vector.
use Rattle.std.specs.Prelude.{◌≡◌, ℕ, ◌+◌, ◌-◌, ◌≤◌, List, [], ◌∷◌, ◌++◌, length, slice_range, Option, MatchOption}
use Rattle.std.specs.Borrow.{GName, MutBor}
use Rattle.std.specs.Iterator.Runs.{YieldsInOrder, YieldsInReverse}
use Rattle.std.specs.List.{remove_range}
use Rattle.tinyvec_slots.specs.Ends.{End, TakesFromEnds, RunsWord}
use Rattle.tinyvec_slots.specs.declared.can_drain.CanDrain as CanDrain
use Rattle.tinyvec_slots.specs.declared.drain.Drain.{Drain}

module _ {V T : Type 0} where
  -- `d.len()`
  abbrev pub drain_len : Drain V T → ℕ
  drain_len d = d.back - d.front

  -- the vector meanwhile
  abbrev pub drain_vec : Drain V T → V
  drain_vec d = d.vec.now

  -- the ghost name of the reference to the vector
  abbrev pub drain_lender : Drain V T → GName
  drain_lender d = d.vec.ghost_name

module _ {V T : Type 0} (g : CanDrain.Ghosts V T) where
  -- the remaining items
  abbrev pub drain_items : Drain V T → List T
  drain_items d = slice_range (g.drained_list d.vec.now) d.front d.back

  -- what precedes and follows the range in what holds its items
  abbrev pub drain_others : Drain V T → List T
  drain_others d = remove_range (g.drained_list d.vec.now) d.start (d.start + d.gap)

  -- the remaining items are in the range, and the range is within what the vector holds
  abbrev pub DrainCanStep : Drain V T → Type 0
  DrainCanStep d = (d.start ≤ d.front) × (d.back ≤ d.start + d.gap) × (d.start + d.gap ≤ length (g.drained_list d.vec.now))

  -- what the vector is once d was dropped
  abbrev pub DrainLeaves : Drain V T → V → Type 0
  DrainLeaves d v = g.Ended d.start d.gap d.vec.now v

  -- old and new borrow the same vector. What new leaves is what old leaves.
  pub record DrainKeeps (old new : Drain V T) : Type 0 where
    pub same_reference : drain_lender new ≡ drain_lender old
    pub others : drain_others new ≡ drain_others old
    pub kept : g.Kept (drain_vec old) (drain_vec new)
    pub ready : DrainCanStep old → DrainCanStep new
    pub leaves : (v : V) → DrainLeaves new v → DrainLeaves old v

  -- `next` took old to new, and returned the first item
  abbrev pub DrainSteps : Drain V T → Option T → Drain V T → Type 0
  DrainSteps old item new =
      MatchOption item ((drain_items old ≡ []) × (new ≡ old)) (λ x. drain_items old ≡ x ∷ drain_items new) × DrainKeeps old new

  -- `next_back` took old to new, and returned the last item
  abbrev pub DrainStepsBack : Drain V T → Option T → Drain V T → Type 0
  DrainStepsBack old item new =
      MatchOption item ((drain_items old ≡ []) × (new ≡ old)) (λ x. drain_items old ≡ drain_items new ++ x ∷ []) × DrainKeeps old new

  -- any calls of `next` and `next_back` take from the two ends of the remaining items
  abbrev pub DrainsFromEnds : Drain V T → Type 0
  DrainsFromEnds d =
      (word : List End) (answers : List (Option T)) (later : Drain V T) → RunsWord DrainSteps DrainStepsBack d word answers later
      → TakesFromEnds (drain_items d) word answers (drain_items later) × DrainKeeps d later

  -- d yields xs in order. What holds them, in the vector of v, has `others` around them. Once d is dropped, `After` holds of the vector.
  pub record DrainBegins (v : MutBor V) (xs others : List T) (After : V → Type 0) (d : Drain V T) : Type 0 where
    pub rest : drain_items d ≡ xs
    pub len : drain_len d ≡ length (drain_items d)
    pub others_are : drain_others d ≡ others
    pub ready : DrainCanStep d
    pub runs : YieldsInOrder DrainSteps drain_items
    pub runs_back : YieldsInReverse DrainStepsBack drain_items
    pub both_ends : DrainsFromEnds d
    pub same_reference : drain_lender d ≡ v.ghost_name
    pub leaves : (w : V) → DrainLeaves d w → After w

  -- a drain of what `old` refers to holds from `start` up to `end`
  pub record DrainsFrom (old : MutBor V) (start end : ℕ) (d : Drain V T) : Type 0 where
    pub vec : drain_vec d ≡ old.now
    pub begins : DrainBegins old (slice_range (g.drained_list old.now) start end) (remove_range (g.drained_list old.now) start end)
        (g.Ended start (end - start) old.now) d
