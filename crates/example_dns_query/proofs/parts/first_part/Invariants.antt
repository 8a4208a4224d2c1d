use Rattle.std.proofs.Common.{◌≢◌, ℕ, ◌<◌, get_or}
use Rattle.example_dns_query.proofs.parts.first_part.Given as goal

-- no separator was met
abbrev pub invariant-loop-index : goal.invariant-loop-index
invariant-loop-index l = (k : ℕ) → k < l.index → get_or l.text k 0 ≢ l.separator
