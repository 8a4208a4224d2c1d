use Rattle.tinyvec_text.proofs.Filters.{CopiedDown}
use Rattle.tinyvec_text.proofs.inline_text.filters.copy_down.Given as goal

abbrev pub invariant-loop-i : goal.invariant-loop-i
invariant-loop-i l = CopiedDown l.initial.bytes l.bytes l.to l.from l.i
