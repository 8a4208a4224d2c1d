use Rattle.std.proofs.Common.{◌++◌, ap, refl, ◌∙◌, chars, rules}
use Rattle.std.proofs.lemmas.Str.{IsUtf8-append, chars-append, encode_ascii}
use Rattle.tinyvec.specs.TinyVec.{tiny_items}
use Rattle.tinyvec_text.proofs.Boundaries.{one_ascii}
use Rattle.tinyvec_text.proofs.Lists.{text_utf8, text_roomy, text_stays, text_becomes}
use Rattle.tinyvec_text.proofs.inline_text.InlineText.push_reserved.Goals as goal

pub invariant_of-self : goal.invariant_of-self
invariant_of-self g c =
    text_stays c.self.inside.list c.push_reserved.new.self _ c.push_reserved.ensures c.self.invariant
    (IsUtf8-append _ _ (text_utf8 c.self.inside.list c.self.invariant) (one_ascii c.args.ch (search rules)).0)

pub returns-then-is_ascii-clause-becomes : goal.returns-then-is_ascii-clause-becomes
returns-then-is_ascii-clause-becomes g c =
    let list = c.self.inside.list in
    let spelled = chars-append _ _ (text_utf8 list c.self.invariant) ∙ ap (λ cs. chars (tiny_items list) ++ cs) (one_ascii c.args.ch (search rules)).1 in
    rw (← c.self.view_is, encode_ascii c.args.ch (search rules)) (text_becomes list c.push_reserved.new.self _ _ _ refl c.push_reserved.ensures spelled)

pub returns-clause-becomes : goal.returns-clause-becomes
returns-clause-becomes g c = text_roomy _ _ _ _ _ _ c.push_wide-room_was_there.result c.push_wide-room_was_there.ensures c.requires
