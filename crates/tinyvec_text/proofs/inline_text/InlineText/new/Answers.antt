use Rattle.std.proofs.Common.{ap, ◌∙◌, chars}
use Rattle.std.proofs.lemmas.Str.{chars-nil}
use Rattle.tinyvec_text.proofs.inline_text.InlineText.new.Goals as goal

pub returns-clause-text : goal.returns-clause-text
returns-clause-text g c = ap chars c.new.ensures.items ∙ chars-nil
