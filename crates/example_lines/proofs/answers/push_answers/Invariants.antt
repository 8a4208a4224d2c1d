use Rattle.std.proofs.Common.{◌≡◌, ◌++◌, List, ℕ, length}
use Rattle.example_lines.specs.Answers.{Advances}
use Rattle.example_lines.proofs.answers.push_answers.Given as goal

-- what was answered for the lines before the rest
abbrev pub invariant-loop-end : goal.invariant-loop-end
invariant-loop-end g l =
    (taken : List ℕ) × (said : List ℕ) × (l.bytes ≡ taken ++ l.rest) × (l.text.items ≡ l.fn.text.items ++ said)
    × Advances g.A.Answer.IsAnswer l.fn.program l.fn.line.items taken said l.line.items l.program

abbrev pub decreases-loop-end : goal.decreases-loop-end
decreases-loop-end g l = length l.rest
