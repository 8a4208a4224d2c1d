use Rattle.std.proofs.Common.{rules, arith, length, ◌∙◌, ◌++◌, ap, string_bytes}
use Rattle.example_nodes.specs.Squares.{squares_in}
use Rattle.example_nodes.specs.Parts.{parts_text, vec_text}
use Rattle.example_nodes.specs.Answer.{said_of, squares_said}
use Rattle.example_nodes.proofs.Texts.{few_squares}
use Rattle.example_nodes.proofs.Answered.{answered, counted}
use Rattle.example_nodes.proofs.answer.push_squares_line.Goals as goal

pub returns-clause-right : goal.returns-clause-right
returns-clause-right c =
    let start = string_bytes c.args.text.now in
    let first = string_bytes c.write.new.self in
    let body = vec_text c.in_ok-parts.parts in
    let count = c.count_squares-count.ensures ∙ ap (λ ps. squares_in (parts_text ps)) c.as_slice.ensures in
    let text = answered start c.count_squares-count.result body first (string_bytes c.push_squares.new.text) (string_bytes c.push.new.self) (search rules)
    (c.in_ok-push_squares.ensures ∙ ap (λ ps. first ++ parts_text ps) c.as_slice-2.ensures) (search rules) in
    (_, ap (said_of squares_said) c.in_ok-parts.ensures.right, text ∙ ap (λ n. start ++ counted n body) count)

-- each square begins with a byte of its own
pub count_squares-count-requires : goal.count_squares-count-requires
count_squares-count-requires c =
    let text = vec_text c.in_ok-parts.parts in
    omega (arith, few_squares text, ap length c.in_ok-parts.ensures.spells, ap (λ ps. squares_in (parts_text ps)) c.as_slice.ensures)
