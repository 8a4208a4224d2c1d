use Rattle.std.proofs.Common.{◌++◌, IsUtf8, ap, sym, subst, ◌∙◌, chars}
use Rattle.std.proofs.CharBoundary.{IsUtf8-take-drop}
use Rattle.tinyvec.specs.TinyVec.{tiny_items}
use Rattle.tinyvec_text.specs.InlineText.{text_chars, IsText}
use Rattle.tinyvec_text.proofs.Boundaries.{chars_cut}
use Rattle.tinyvec_text.proofs.Lists.{text_utf8, text_cut, text_stays, text_unmoved, text_made}
use Rattle.tinyvec_text.proofs.inline_text.InlineText.split_off.Goals as goal

pub split_off-requires : goal.split_off-requires
split_off-requires g c = (text_cut c.self.inside.list c.args.self.now c.self.view_is c.args.at c.requires).0

pub invariant_of-self : goal.invariant_of-self
invariant_of-self g c = subst IsText (sym c.in_err-list.ensures.refused) c.self.invariant

pub invariant_of-result : goal.invariant_of-result
invariant_of-result g c =
    let list = c.self.inside.list in
    let cut = text_cut list c.args.self.now c.self.view_is c.args.at c.requires in
    let back = (IsUtf8-take-drop (tiny_items list) (text_utf8 list c.self.invariant) c.args.at cut).1 in
    let told = c.in_ok-list.ensures in
    text_made _ c.in_ok-list.list (subst IsUtf8 (sym told.tail.items) back) told.tail.spare

pub invariant_of-self-2 : goal.invariant_of-self-2
invariant_of-self-2 g c =
    let list = c.self.inside.list in
    let cut = text_cut list c.args.self.now c.self.view_is c.args.at c.requires in
    let front = (IsUtf8-take-drop (tiny_items list) (text_utf8 list c.self.invariant) c.args.at cut).0 in
    text_stays list c.split_off.new.self _ c.in_ok-list.ensures.becomes c.self.invariant front

pub returns-clause-text : goal.returns-clause-text
returns-clause-text g c =
    let list = c.self.inside.list in
    let cut = text_cut list c.args.self.now c.self.view_is c.args.at c.requires in
    let told = c.in_ok-list.ensures in
    sym (ap text_chars c.self.view_is) ∙ chars_cut (tiny_items list) (text_utf8 list c.self.invariant) c.args.at cut
    ∙ sym (λ i. chars (told.becomes.items i) ++ chars (told.tail.items i))

pub returns-clause-frame : goal.returns-clause-frame
returns-clause-frame g c = text_unmoved c.self.inside.list c.split_off.new.self c.args.self.now _ c.self.view_is c.in_ok-list.ensures.becomes

pub returns-in_err-list-clause-frame : goal.returns-in_err-list-clause-frame
returns-in_err-list-clause-frame g c = text_unmoved c.self.inside.list c.split_off.new.self c.args.self.now _ c.self.view_is c.in_err-list.ensures.becomes
