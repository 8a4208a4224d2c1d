use Rattle.std.proofs.Common.{◌++◌, ◌∷◌, [], ap, refl, ◌∙◌, chars, Ok, rules}
use Rattle.std.proofs.lemmas.Str.{IsUtf8-append, chars-append, encode_ascii}
use Rattle.tinyvec.specs.TinyVec.{tiny_items}
use Rattle.tinyvec.specs.View.{Doubled}
use Rattle.tinyvec_text.proofs.Boundaries.{one_ascii}
use Rattle.tinyvec_text.proofs.Lists.{ascii_growth, text_utf8, text_same, text_grown, text_grows}
use Rattle.tinyvec_text.proofs.inline_text.InlineText.push_slow.Goals as goal

pub invariant_of-self : goal.invariant_of-self
invariant_of-self g c = text_same c.self.inside.list c.push.new.self c.in_err-push.ensures.err.1 c.self.invariant

pub invariant_of-self-then-is_ascii : goal.invariant_of-self-then-is_ascii
invariant_of-self-then-is_ascii g c =
    let utf8 = text_utf8 c.self.inside.list c.self.invariant in
    text_grown Doubled _ c.self.inside.list c.push.new.self _ c.in_ok-push.ensures.ok c.self.invariant (IsUtf8-append _ _ utf8 (one_ascii c.args.ch (search rules)).0)

pub returns-then-is_ascii : goal.returns-then-is_ascii
returns-then-is_ascii g c =
    let list = c.self.inside.list in
    let x = c.args.ch in
    let spelled = chars-append _ _ (text_utf8 list c.self.invariant) ∙ ap (λ cs. chars (tiny_items list) ++ cs) (one_ascii x (search rules)).1 in
    rw (← c.self.view_is, encode_ascii x (search rules), ascii_growth x (search rules))
    (text_grows Doubled _ list c.push.new.self (tiny_items list ++ x ∷ []) _ (Ok tt) (record { ok = c.in_ok-push.ensures.ok; refused = tt; succeeds = λ _. refl }) spelled)
