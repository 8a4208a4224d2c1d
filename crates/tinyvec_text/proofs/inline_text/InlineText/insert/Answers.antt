use Rattle.std.proofs.Common.{◌+◌, ◌++◌, subst, chars, take, drop, length, encode_utf8}
use Rattle.tinyvec.specs.View.{Reserved}
use Rattle.tinyvec_text.specs.InlineText.{TextGrows, text_len}
use Rattle.tinyvec_text.proofs.Boundaries.{chars_of_one}
use Rattle.tinyvec_text.proofs.inline_text.InlineText.insert.Goals as goal

pub returns : goal.returns
returns g c =
    let t = c.args.self.now in
    let i = c.args.index in
    let front = take i t.bytes in
    let back = drop i t.bytes in
    subst (λ cs. TextGrows Reserved (text_len t + length (encode_utf8 c.args.ch)) t c.insert_str.new.self (front ++ encode_utf8 c.args.ch ++ back) (chars front ++ cs ++ chars back) c.insert_str.result)
    (chars_of_one _ c.args.ch c.encode_utf8.utf8 c.encode_utf8.ensures.value) (rw (← c.encode_utf8.ensures.value) c.insert_str.ensures)
