use Rattle.std.proofs.Common.{◌+◌, ◌++◌, ◌∷◌, IsUtf8, ap, sym, subst, ◌∙◌, chars, take, drop}
use Rattle.std.proofs.CharBoundary.{IsUtf8-take-drop}
use Rattle.std.specs.String.Boundary.{IsSplitPoint}
use Rattle.tinyvec.specs.TinyVec.{tiny_items}
use Rattle.tinyvec_text.specs.InlineText.{Text, text_chars, IsFirstChar}
use Rattle.tinyvec_text.proofs.Boundaries.{from_there, chars_here, utf8_gap, chars_gap}
use Rattle.tinyvec_text.proofs.Lists.{text_utf8, text_cut, text_stays, text_unmoved}
use Rattle.tinyvec_text.proofs.inline_text.InlineText.remove.Goals.{After-as_slice, After-first_char-c}
use Rattle.tinyvec_text.proofs.inline_text.InlineText.remove.Goals as goal

cut : (g : _) (c : After-as_slice g) → IsSplitPoint (tiny_items c.self.inside.list) c.args.index
cut g c = text_cut c.self.inside.list c.args.self.now c.self.view_is c.args.index c.requires.boundary

here : (g : _) (c : After-first_char-c g) → IsFirstChar (drop c.args.index (tiny_items c.self.inside.list)) c.first_char-c.result.0 c.first_char-c.result.1
here g c = subst (λ xs. IsFirstChar xs c.first_char-c.result.0 c.first_char-c.result.1) (from_there _ _ c.args.index c.as_slice.ensures) c.first_char-c.ensures

pub first_char-c-requires-clause-utf8 : goal.first_char-c-requires-clause-utf8
first_char-c-requires-clause-utf8 g c =
    let list = c.self.inside.list in
    subst IsUtf8 (sym (from_there _ _ c.args.index c.as_slice.ensures)) (IsUtf8-take-drop (tiny_items list) (text_utf8 list c.self.invariant) c.args.index (cut g (goal.at.first_char-c-requires-clause-utf8 g c).After-as_slice)).1

pub invariant_of-self : goal.invariant_of-self
invariant_of-self g c =
    let list = c.self.inside.list in
    let at = goal.at.invariant_of-self g c in
    text_stays list c.remove_bytes.new.list _ c.remove_bytes.ensures c.self.invariant
    (utf8_gap (tiny_items list) (text_utf8 list c.self.invariant) c.args.index (cut g at.After-as_slice) (here g at.After-first_char-c))

pub returns-clause-text : goal.returns-clause-text
returns-clause-text g c =
    let list = c.self.inside.list in
    let bs = tiny_items list in
    let i = c.args.index in
    let utf8 = text_utf8 list c.self.invariant in
    let at = goal.at.returns-clause-text g c in
    let split = cut g at.After-as_slice in
    let first = here g at.After-first_char-c in
    let behind = chars (drop (i + c.first_char-c.result.1) bs) in (
      behind,
      sym (ap text_chars c.self.view_is) ∙ chars_here bs utf8 i split first ∙ ap (λ (t : Text). chars (take i t.bytes) ++ c.first_char-c.result.0 ∷ behind) c.self.view_is,
      ap chars c.remove_bytes.ensures.items ∙ chars_gap bs utf8 i split first ∙ ap (λ (t : Text). chars (take i t.bytes) ++ behind) c.self.view_is,
    )

pub returns-clause-frame : goal.returns-clause-frame
returns-clause-frame g c = text_unmoved c.self.inside.list c.remove_bytes.new.list c.args.self.now _ c.self.view_is c.remove_bytes.ensures
