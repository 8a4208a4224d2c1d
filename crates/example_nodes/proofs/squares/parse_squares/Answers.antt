use Rattle.std.proofs.Common.{rules, ◌≡◌, ◌∙◌, ◌+◌, ◌==◌, length, ap, sym, drop, None}
use Rattle.std.proofs.lemmas.Bool.{eqb-true}
use Rattle.std.proofs.lemmas.Result.{err_from_is_err_and}
use Rattle.example_nodes.specs.Machine.{right, outcome_on, demanded}
use Rattle.example_nodes.specs.Squares.{squares_line, squares_outcome}
use Rattle.example_nodes.specs.Parts.{reading_of}
use Rattle.example_nodes.specs.declared.parse_error.Fault.TheVariants.{NotClosed}
use Rattle.example_nodes.proofs.Steps.{goes_on, stops, at_end, ends, none_demanded}
use Rattle.example_nodes.proofs.Filled.{depth_is, all_folded}
use Rattle.example_nodes.proofs.Spells.{spells}
use Rattle.example_nodes.proofs.squares.parse_squares.Goals as goal

pub returns-in_err-step-clause-wrong : goal.returns-in_err-step-clause-wrong
returns-in_err-step-clause-wrong c =
    let line = c.args.line.now in
    let p = err_from_is_err_and c.from_residual.result c.from_residual.ensures.1 in
    rw (p.1, p.2) (stops squares_line (reading_of c.loop-at.parser) c.loop-at.at line (squares_outcome line) c.loop-at-test.true c.loop-at.invariant _ c.in_err-step.ensures)

pub loop-at-preserved : goal.loop-at-preserved
loop-at-preserved c =
    let at = c.loop-at.at in
    let line = c.args.line.now in
    ap (λ s. outcome_on squares_line s (at + 1 + 1) (drop (at + 1) line)) c.in_ok-step.ensures.1
    ∙ goes_on squares_line (reading_of c.loop-at.parser) at line (squares_outcome line) c.loop-at-test.true c.loop-at.invariant c.in_ok-step.ensures.0

pub returns-clause-spells : goal.returns-clause-spells
returns-clause-spells c =
    let line = c.args.line.now in
    let p = c.loop-at.parser in
    let s = reading_of p in
    let outer = p.outer.items in
    let none : demanded (length outer == 0) NotClosed ≡ None = search rules in
    let left = at_end squares_line s c.loop-at.at line (squares_outcome line) c.loop-at-test.false c.loop-at.auto.at-end c.loop-at.invariant in
    let is = ends squares_line s (length line + 1) (squares_outcome line) left (ap (λ n. demanded (n == 0) NotClosed) (depth_is outer) ∙ none) in
    spells line _ (sym is ∙ ap right (all_folded p (eqb-true (length outer) 0 (none_demanded (length outer == 0) NotClosed none))))
