use Rattle.std.proofs.Common.{◌≤◌, ◌++◌, ap, sym, subst, ◌∙◌, chars, min, length, drop, length-take, rules}
use Rattle.std.specs.String.Boundary.{IsSplitPoint}
use Rattle.tinyvec.specs.TinyVec.{tiny_items, tiny_len}
use Rattle.tinyvec_text.specs.InlineText.{text_chars, text_len, Text}
use Rattle.tinyvec_text.proofs.Boundaries.{front_cut}
use Rattle.tinyvec_text.proofs.Lists.{text_utf8, text_cut, text_stays, text_unmoved}
use Rattle.tinyvec_text.proofs.inline_text.InlineText.truncate.Goals.{After-truncate}
use Rattle.tinyvec_text.proofs.inline_text.InlineText.truncate.Goals as goal

cut : (g : _) (c : After-truncate g) → c.args.new_len ≤ tiny_len c.self.inside.list → IsSplitPoint (tiny_items c.self.inside.list) c.args.new_len
cut g c fits =
    let list = c.self.inside.list in
    text_cut list c.args.self.now c.self.view_is c.args.new_len (c.requires (subst (λ (t : Text). c.args.new_len ≤ text_len t) c.self.view_is fits))

pub invariant_of-self : goal.invariant_of-self
invariant_of-self g c =
    let list = c.self.inside.list in
    text_stays list c.truncate.new.self _ c.truncate.ensures c.self.invariant
    (front_cut (tiny_items list) (text_utf8 list c.self.invariant) c.args.new_len (cut g (goal.at.invariant_of-self g c).After-truncate)).0

pub returns : goal.returns
returns g c =
    let list = c.self.inside.list in
    let parts = (front_cut (tiny_items list) (text_utf8 list c.self.invariant) c.args.new_len (cut g (goal.at.returns g c).After-truncate)).1 in
    let rest = chars (drop c.args.new_len (tiny_items list)) in
    record {
      bytes = search rules;
      text = (rest, sym (ap text_chars c.self.view_is) ∙ parts ∙ ap (λ xs. chars xs ++ rest) (sym c.truncate.ensures.items));
      len = ap length c.truncate.ensures.items ∙ length-take c.args.new_len (tiny_items list) ∙ ap (λ (t : Text). min c.args.new_len (text_len t)) c.self.view_is;
      frame = text_unmoved list c.truncate.new.self c.args.self.now _ c.self.view_is c.truncate.ensures;
    }
