use Rattle.tinyvec_text.proofs.Lists.{text_utf8}
use Rattle.tinyvec_text.proofs.inline_text.InlineText.as_bytes.Goals as goal

pub returns-clause-utf8 : goal.returns-clause-utf8
returns-clause-utf8 g c = rw (← c.as_slice.ensures) at (text_utf8 c.self.inside.list c.self.invariant)
