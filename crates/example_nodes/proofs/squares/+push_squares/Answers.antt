use Rattle.std.proofs.Common.{rules, arith, string_bytes, length, ap}
use Rattle.std.proofs.lemmas.List.{length-append}
use Rattle.example_nodes.specs.Parts.{text_of, part_text}
use Rattle.example_nodes.proofs.Texts.{length_whole, whole_written, part_of_all}
use Rattle.example_nodes.proofs.squares.+push_squares.Goals as goal

pub push_square-push_squares-requires : goal.push_square-push_squares-requires
push_square-push_squares-requires t c = (omega (arith, length_whole c.args.square.now c.in-Parts.parts c.as_slice.result.now c.in-Parts.is (search rules)), tt)

pub push_square-returns-in_ok-push_squares-in-Parts : goal.push_square-returns-in_ok-push_squares-in-Parts
push_square-returns-in_ok-push_squares-in-Parts t c =
    let all = whole_written c.args.square.now c.in-Parts.parts c.as_slice.result.now c.in-Parts.is (search rules) (string_bytes c.args.text.now) (string_bytes c.push_str-in-Parts.new.self)
    (string_bytes c.push_squares.new.text) c.in_ok-push_str-in-Parts.ensures.bytes c.in_ok-push_squares-in-Parts.ensures in
    search (rules, all)

pub push_squares-push_square-requires : goal.push_squares-push_square-requires
push_squares-push_square-requires t c = (
  omega (
    arith,
    part_of_all length (λ xs ys. length-append xs ys) c.args.parts.now c.loop-part.part-index c.part-item.result c.loop-part-test.true,
    ap (λ p. length (part_text p)) c.part-item.is,
    ap (λ p. length (part_text p)) c.in-Some.is,
    ap (λ s. length (text_of s)) c.deref.ensures,
  ),
  tt,
)
