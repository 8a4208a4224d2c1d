use Rattle.std.proofs.Common.{rules}
use Rattle.example_stream.proofs.Frames.{wrong-tag}
use Rattle.example_stream.proofs.stream.has_next.Goals as goal

pub returns-then-tag-ne-TAG-clause-next : goal.returns-then-tag-ne-TAG-clause-next
returns-then-tag-ne-TAG-clause-next g c = wrong-tag c.in-Ok.tag _ _ c.in-Ok.ensures.ok (search rules)
