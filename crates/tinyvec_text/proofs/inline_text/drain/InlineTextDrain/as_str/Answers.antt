use Rattle.std.proofs.Common.{IsUtf8, sym, subst}
use Rattle.std.proofs.CharBoundary.{IsUtf8-take-drop}
use Rattle.tinyvec_text.proofs.Boundaries.{from_there}
use Rattle.tinyvec_text.proofs.inline_text.drain.InlineTextDrain.as_str.Goals as goal

pub unreachable-requires : goal.unreachable-requires
unreachable-requires g c =
    let at = c.self.inside.at in
    let bytes = c.as_bytes.ensures in
    c.in-Err.ensures.cases.0 (subst IsUtf8 (sym (from_there _ _ at bytes.value)) (IsUtf8-take-drop _ (subst IsUtf8 bytes.value bytes.utf8) at c.self.invariant).1)
