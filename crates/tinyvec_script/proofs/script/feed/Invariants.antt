use Rattle.std.proofs.Common.{◌≡◌, List, ℕ, ◌++◌, length}
use Rattle.tinyvec_script.specs.History.{Feeds}
use Rattle.tinyvec_script.specs.State.{state_of}
use Rattle.tinyvec_script.specs.Writes.{Gathers}
use Rattle.tinyvec_script.proofs.script.feed.Given as goal

-- the lines before the rest are answered
abbrev pub invariant-loop-front : goal.invariant-loop-front
invariant-loop-front g l =
    (lines : List ℕ) × (output : List ℕ) × (l.bytes ≡ lines ++ l.rest)
    × Gathers g.W.Write.contents l.fn.writer l.fn.gathered l.writer l.gathered output
    × Feeds (state_of g.B.Slots l.fn.vectors) l.fn.line lines output (state_of g.B.Slots l.vectors) l.line

abbrev pub decreases-loop-front : goal.decreases-loop-front
decreases-loop-front g l = length l.rest
