use Rattle.std.proofs.Common.{◌++◌, IsUtf8, ap, sym, subst, ◌∙◌, chars, rules}
use Rattle.std.proofs.lemmas.Str.{IsUtf8-append, IsUtf8-encode, chars-append}
use Rattle.tinyvec.specs.TinyVec.{tiny_items}
use Rattle.tinyvec_text.proofs.Boundaries.{chars_of_one}
use Rattle.tinyvec_text.proofs.Lists.{list_extended, wide_growth, text_utf8, text_after, text_grows}
use Rattle.tinyvec_text.proofs.inline_text.InlineText.push_spelled.Goals as goal

pub invariant_of-self : goal.invariant_of-self
invariant_of-self g c =
    let list = c.self.inside.list in
    let put = c.extend_from_slice_copy in
    text_after _ _ list put.new.self _ put.result (list_extended list put.new.self _ put.result put.ensures.ok put.ensures.refused put.ensures.succeeds) c.self.invariant
    (IsUtf8-append _ _ (text_utf8 list c.self.invariant) (subst IsUtf8 c.requires.spelled (IsUtf8-encode c.args.c (search rules))))

pub returns : goal.returns
returns g c =
    let list = c.self.inside.list in
    let put = c.extend_from_slice_copy in
    let utf8 = subst IsUtf8 c.requires.spelled (IsUtf8-encode c.args.c (search rules)) in
    let spelled = chars-append _ _ (text_utf8 list c.self.invariant) ∙ ap (λ cs. chars (tiny_items list) ++ cs) (chars_of_one _ c.args.c utf8 (sym c.requires.spelled)) in
    rw (← c.self.view_is, c.requires.spelled, wide_growth c.args.c c.requires.wide)
    (text_grows _ _ list put.new.self _ _ put.result (list_extended list put.new.self _ put.result put.ensures.ok put.ensures.refused put.ensures.succeeds) spelled)
