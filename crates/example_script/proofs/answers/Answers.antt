use Rattle.std.proofs.Common.{rules}
use Rattle.tinyvec_script.specs.Script.{Script}
use Rattle.example_script.proofs.BadAndText.{bad_then_text}
use Rattle.example_script.proofs.Spliced.{splice_then_rest}
use Rattle.example_script.proofs.ThreeLines.{three_lines}
use Rattle.example_script.proofs.answers.Goals as goal

pub returns-clause-three_lines : goal.returns-clause-three_lines
returns-clause-three_lines c =
    let script : Script c.args.input.now c.into_inner.result.items = search rules in
    λ e. three_lines c.into_inner.result.items (rw e at script)

pub returns-clause-bad_and_text : goal.returns-clause-bad_and_text
returns-clause-bad_and_text c =
    let script : Script c.args.input.now c.into_inner.result.items = search rules in
    λ e. bad_then_text c.into_inner.result.items (rw e at script)

pub returns-clause-spliced : goal.returns-clause-spliced
returns-clause-spliced c =
    let script : Script c.args.input.now c.into_inner.result.items = search rules in
    λ e. splice_then_rest c.args.alloc c.into_inner.result.items (rw e at script)
