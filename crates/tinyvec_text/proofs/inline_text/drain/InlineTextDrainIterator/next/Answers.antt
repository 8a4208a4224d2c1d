use Rattle.std.proofs.Common.{IsUtf8, sym, subst, ◌∙◌, drop}
use Rattle.std.proofs.CharBoundary.{IsUtf8-take-drop}
use Rattle.tinyvec_text.specs.InlineText.{IsFirstChar}
use Rattle.tinyvec_text.proofs.Boundaries.{from_there, parts_here, split_behind}
use Rattle.tinyvec_text.proofs.inline_text.drain.InlineTextDrainIterator.next.Goals.{After-first_char-c}
use Rattle.tinyvec_text.proofs.inline_text.drain.InlineTextDrainIterator.next.Goals as goal

module _ (g : _) (c : After-first_char-c g) where
  utf8 : IsUtf8 c.self.inside.text.bytes
  utf8 = subst IsUtf8 c.as_bytes.ensures.value c.as_bytes.ensures.utf8

  here : IsFirstChar (drop c.self.inside.at c.self.inside.text.bytes) c.first_char-c.result.0 c.first_char-c.result.1
  here = subst (λ xs. IsFirstChar xs c.first_char-c.result.0 c.first_char-c.result.1) (from_there _ _ c.self.inside.at c.as_bytes.ensures.value) c.first_char-c.ensures

pub first_char-c-requires-clause-utf8 : goal.first_char-c-requires-clause-utf8
first_char-c-requires-clause-utf8 g c =
    let at = c.self.inside.at in
    let bytes = c.as_bytes.ensures in
    subst IsUtf8 (sym (from_there _ _ at bytes.value)) (IsUtf8-take-drop _ (subst IsUtf8 bytes.value bytes.utf8) at c.self.invariant).1

pub invariant_of-self : goal.invariant_of-self
invariant_of-self g c =
    let at = (goal.at.invariant_of-self g c).After-first_char-c in split_behind c.self.inside.text.bytes (utf8 g at) c.self.inside.at c.self.invariant (here g at)

pub returns-clause-steps : goal.returns-clause-steps
returns-clause-steps g c =
    let at = (goal.at.returns-clause-steps g c).After-first_char-c in
    sym c.self.view_is ∙ parts_here c.self.inside.text.bytes (utf8 g at) c.self.inside.at c.self.invariant (here g at)
