use Rattle.std.proofs.lemmas.Str.{IsUtf8-append, chars-append}
use Rattle.tinyvec_text.proofs.Lists.{list_extended, text_utf8, text_after, text_grows}
use Rattle.tinyvec_text.proofs.inline_text.InlineText.push_str.Goals as goal

pub invariant_of-self : goal.invariant_of-self
invariant_of-self g c =
    let list = c.self.inside.list in
    let put = c.extend_from_slice_copy in
    text_after _ _ list put.new.self _ put.result (list_extended list put.new.self _ put.result put.ensures.ok put.ensures.refused put.ensures.succeeds) c.self.invariant
    (IsUtf8-append _ _ (text_utf8 list c.self.invariant) c.as_bytes.ensures.utf8)

pub returns : goal.returns
returns g c =
    let list = c.self.inside.list in
    let put = c.extend_from_slice_copy in
    rw (← c.self.view_is, ← c.as_bytes.ensures.value)
    (text_grows _ _ list put.new.self _ _ put.result (list_extended list put.new.self _ put.result put.ensures.ok put.ensures.refused put.ensures.succeeds)
    (chars-append _ _ (text_utf8 list c.self.invariant)))
