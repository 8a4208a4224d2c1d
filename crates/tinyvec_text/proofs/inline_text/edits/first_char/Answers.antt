use Rattle.std.proofs.Common.{sym, ◌∙◌, rules}
use Rattle.std.proofs.Math.Seq.{take-suc}
use Rattle.std.proofs.lemmas.Str.{IsUtf8-drop, IsCharBoundary-after_ascii, encode_ascii}
use Rattle.tinyvec_text.proofs.inline_text.edits.first_char.Goals as goal

pub returns-then-byte-lt128 : goal.returns-then-byte-lt128
returns-then-byte-lt128 c =
    let bs = c.args.bytes.now in
    let some = c.requires.some in
    let utf8 = c.requires.utf8 in
    record {
      encoded = take-suc bs 0 0 some ∙ sym (encode_ascii _ c.if-byte-lt128.true);
      rest = IsUtf8-drop bs 1 utf8 (IsCharBoundary-after_ascii bs 0 utf8 some c.if-byte-lt128.true);
      scalar = search rules;
      positive = search rules;
      in_bounds = search rules;
    }
