use Rattle.std.proofs.Common.{◌∙◌, ap, sym}
use Rattle.std.proofs.lemmas.Result.{IfErr-weaker, on_ok_weaker}
use Rattle.example_nodes.specs.Squares.{squares_outcome}
use Rattle.example_nodes.specs.Answer.{nodes_outcome, nodes_said, squares_said, line_outcome}
use Rattle.example_nodes.proofs.Answered.{line_by, still_said}
use Rattle.example_nodes.proofs.answer.push_line.Goals as goal

pub returns-then-starts_with : goal.returns-then-starts_with
returns-then-starts_with c =
    let line = c.args.line.now in
    let here = ap (line_by line) (sym c.starts_with.ensures.value ∙ c.if-starts_with.true) in record {
      right = on_ok_weaker c.push_squares_line.result (λ is. (is.0, here ∙ is.1, is.2)) c.push_squares_line.ensures.right;
      wrong = IfErr-weaker c.push_squares_line.result _ _ (still_said squares_said (squares_outcome line) (line_outcome line) here) c.push_squares_line.ensures.wrong;
    }

pub returns : goal.returns
returns c =
    let line = c.args.line.now in
    let here = ap (line_by line) (sym c.starts_with.ensures.value ∙ c.if-starts_with.false) in record {
      right = on_ok_weaker c.push_nodes_line.result (λ is. (is.0, here ∙ is.1, is.2)) c.push_nodes_line.ensures.right;
      wrong = IfErr-weaker c.push_nodes_line.result _ _ (still_said nodes_said (nodes_outcome line) (line_outcome line) here) c.push_nodes_line.ensures.wrong;
    }
