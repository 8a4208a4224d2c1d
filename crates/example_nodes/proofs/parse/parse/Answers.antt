use Rattle.std.proofs.Common.{◌≡◌, ◌∙◌, ◌+◌, [], length, ap, drop, arith}
use Rattle.std.proofs.lemmas.Result.{err_from_is_err_and}
use Rattle.std.specs.Result.{IfOk}
use Rattle.example_nodes.specs.Machine.{right, outcome_on}
use Rattle.example_nodes.specs.Outcome.{nodes_line, outcome}
use Rattle.example_nodes.specs.Parsers.{nodes_words, state_of}
use Rattle.example_nodes.proofs.Steps.{goes_on, stops, at_end}
use Rattle.example_nodes.proofs.Ends.{parsed, failed, few}
use Rattle.example_nodes.proofs.parse.parse.Goals as goal

pub returns-in_err-number-clause-wrong : goal.returns-in_err-number-clause-wrong
returns-in_err-number-clause-wrong c =
    let line = c.args.line.now in
    let p = err_from_is_err_and c.from_residual.result c.from_residual.ensures.1 in
    rw (p.1, p.2) (stops nodes_line (state_of c.loop-at.parser c.loop-at.number) c.loop-at.at line (outcome line) c.loop-at-test.true c.loop-at.invariant _ c.in_err-number.ensures)

pub loop-at-preserved : goal.loop-at-preserved
loop-at-preserved c =
    let at = c.loop-at.at in
    let line = c.args.line.now in
    ap (λ s. outcome_on nodes_line s (at + 1 + 1) (drop (at + 1) line)) c.in_ok-number.ensures.1
    ∙ goes_on nodes_line (state_of c.loop-at.parser c.loop-at.number) at line (outcome line) c.loop-at-test.true c.loop-at.invariant c.in_ok-number.ensures.0

-- what is left of the line at its end
left : (c : goal.After-finish) → outcome_on nodes_line (state_of c.loop-at.parser c.loop-at.number) (length c.args.line.now + 1) [] ≡ outcome c.args.line.now
left c = at_end nodes_line (state_of c.loop-at.parser c.loop-at.number) c.loop-at.at c.args.line.now (outcome c.args.line.now) c.loop-at-test.false c.loop-at.auto.at-end c.loop-at.invariant

right_words : (c : goal.After-finish) → IfOk c.finish.result (λ v. outcome c.args.line.now ≡ right (nodes_words v))
right_words c = parsed c.args.line.now (state_of c.loop-at.parser c.loop-at.number) _ (left c) c.finish.result c.finish.ensures.open c.finish.ensures.right

pub returns-clause-right : goal.returns-clause-right
returns-clause-right c = right_words c

pub returns-clause-fits : goal.returns-clause-fits
returns-clause-fits c = few c.args.line.now (omega arith) c.finish.result (right_words c)

pub returns-clause-wrong : goal.returns-clause-wrong
returns-clause-wrong c = failed c.args.line.now (state_of c.loop-at.parser c.loop-at.number) _ (left c) c.finish.result c.finish.ensures.err
