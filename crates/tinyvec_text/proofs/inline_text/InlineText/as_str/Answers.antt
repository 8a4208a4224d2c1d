use Rattle.std.proofs.Common.{IsUtf8, sym, subst, ◌∙◌, rules}
use Rattle.std.proofs.lemmas.Str.{encodes-chars, scalars-chars}
use Rattle.tinyvec_text.specs.InlineText.{Text}
use Rattle.tinyvec_text.proofs.Lists.{text_utf8}
use Rattle.tinyvec_text.proofs.inline_text.InlineText.as_str.Goals as goal

pub unreachable-requires : goal.unreachable-requires
unreachable-requires g c = c.in-Err.ensures.cases.0 (rw (← c.as_slice.ensures) at (text_utf8 c.self.inside.list c.self.invariant))

pub returns-clause-spelled : goal.returns-clause-spelled
returns-clause-spelled g c =
    let utf8 = subst (λ (t : Text). IsUtf8 t.bytes) c.self.view_is (text_utf8 c.self.inside.list c.self.invariant) in
    encodes-chars c.args.self.now.bytes utf8 ∙ sym (search rules)

pub returns-clause-characters : goal.returns-clause-characters
returns-clause-characters g c =
    scalars-chars c.args.self.now.bytes (subst (λ (t : Text). IsUtf8 t.bytes) c.self.view_is (text_utf8 c.self.inside.list c.self.invariant))
