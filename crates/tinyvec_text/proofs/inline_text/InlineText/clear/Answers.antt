use Rattle.std.proofs.lemmas.Str.{chars-nil, IsUtf8-nil}
use Rattle.tinyvec_text.proofs.Lists.{text_stays, text_becomes}
use Rattle.tinyvec_text.proofs.inline_text.InlineText.clear.Goals as goal

pub returns : goal.returns
returns g c = text_becomes c.self.inside.list c.clear.new.self c.args.self.now _ _ c.self.view_is c.clear.ensures chars-nil

pub invariant_of-self : goal.invariant_of-self
invariant_of-self g c = text_stays c.self.inside.list c.clear.new.self _ c.clear.ensures c.self.invariant IsUtf8-nil
