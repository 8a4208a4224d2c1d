use Rattle.std.proofs.Common.{◌≡◌, ◌∙◌, ◌<◌, ◌++◌, ap, length, rules, subst}
use Rattle.std.specs.Io.KnownBytes.{Appends}
use Rattle.tinyvec_io.specs.Counted.{AppendsFront}
use Rattle.example_lines.proofs.Answering.{answers_last}
use Rattle.example_lines.proofs.answers.finish.Goals as goal

pub returns-in_err-write_out-clause-output : goal.returns-in_err-write_out-clause-output
returns-in_err-write_out-clause-output g c = λ _ _.
    let line = c.args.line.now in
    let s = c.in_ok-answer.ensures.answered in
    let text : c.as_slice.result.now ≡ s.0 = c.as_slice.ensures.value ∙ s.1 ∙ ap (λ text. text ++ s.0) c.clear.ensures.items in
    let is = subst (λ line. g.A.Answer.IsAnswer c.args.program.now line s.0 c.answer.new.self) c.strip_return.ensures s.2 in
    let before = g.W.Write.contents c.args.writer.now.inner in
    let after = g.W.Write.contents c.write_out.new.writer.inner in
    let some : 0 < length line = search rules in
    (s.0, subst (AppendsFront before after) text c.in_err-write_out.ensures.output, answers_last g.A.Answer.IsAnswer c.args.program.now c.answer.new.self line s.0 some is)

pub returns-clause-ok : goal.returns-clause-ok
returns-clause-ok g c =
    let line = c.args.line.now in
    let s = c.in_ok-answer.ensures.answered in
    let text : c.as_slice.result.now ≡ s.0 = c.as_slice.ensures.value ∙ s.1 ∙ ap (λ text. text ++ s.0) c.clear.ensures.items in
    let is = subst (λ line. g.A.Answer.IsAnswer c.args.program.now line s.0 c.answer.new.self) c.strip_return.ensures s.2 in
    let before = g.W.Write.contents c.args.writer.now.inner in
    let after = g.W.Write.contents c.write_out.new.writer.inner in
    let some : 0 < length line = search rules in
    (s.0, subst (Appends before after) text c.in_ok-write_out.ensures.ok, answers_last g.A.Answer.IsAnswer c.args.program.now c.answer.new.self line s.0 some is)
