use Rattle.tinyvec_text.proofs.Lists.{text_shrunk}
use Rattle.tinyvec_text.proofs.inline_text.InlineText.shrink_to.Goals as goal

pub invariant_of-self : goal.invariant_of-self
invariant_of-self g c =
    let told = c.shrink_to.ensures in
    text_shrunk _ c.self.inside.list c.shrink_to.new.self c.self.invariant told.items told.kept told.spare
