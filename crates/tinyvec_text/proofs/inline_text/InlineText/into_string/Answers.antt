use Rattle.std.proofs.Common.{IsUtf8, sym, subst}
use Rattle.tinyvec_text.specs.InlineText.{IsText}
use Rattle.tinyvec_text.proofs.Lists.{text_utf8}
use Rattle.tinyvec_text.proofs.inline_text.InlineText.into_string.Goals as goal

pub invariant_of-result : goal.invariant_of-result
invariant_of-result g c = subst IsText (sym c.in-Err.ensures.value_returned) c.self.invariant

pub unreachable-requires : goal.unreachable-requires
unreachable-requires g c =
    let utf8 = subst IsUtf8 (sym c.in-Ok.ensures.items) (text_utf8 c.self.inside.list c.self.invariant) in
    let no = c.in-Err-from_utf8.ensures.succeeds utf8 in cc
