use Rattle.std.proofs.Common.{◌≡◌, ◌∙◌, ◌++◌, ap, subst}
use Rattle.std.specs.Io.KnownBytes.{Appends}
use Rattle.tinyvec_io.specs.Counted.{AppendsFront}
use Rattle.example_lines.proofs.answers.answer_chunk.Goals as goal

pub returns-in_err-write_out-clause-output : goal.returns-in_err-write_out-clause-output
returns-in_err-write_out-clause-output g c = λ _ _.
    let s = c.push_answers-answered.ensures.some in
    let text : c.as_slice.result.now ≡ s.2 = c.as_slice.ensures.value ∙ s.5 ∙ ap (λ text. text ++ s.2) c.clear.ensures.items in
    let before = g.W.Write.contents c.args.writer.now.inner in
    let after = g.W.Write.contents c.write_out.new.writer.inner in
    (s.0, s.1, s.2, s.3, s.4, subst (AppendsFront before after) text c.in_err-write_out.ensures.output, s.6)

pub returns-in_err-answered-clause-memory : goal.returns-in_err-answered-clause-memory
returns-in_err-answered-clause-memory g c = λ _.
    let s = c.push_answers-answered.ensures.some in
    let text : c.as_slice.result.now ≡ s.2 = c.as_slice.ensures.value ∙ s.5 ∙ ap (λ text. text ++ s.2) c.clear.ensures.items in
    let before = g.W.Write.contents c.args.writer.now.inner in
    let after = g.W.Write.contents c.write_out.new.writer.inner in
    (s.0, s.1, s.2, s.3, s.4, subst (Appends before after) text c.in_ok-write_out.ensures.ok, s.6)

pub returns-clause-ok : goal.returns-clause-ok
returns-clause-ok g c =
    let s = c.in_ok-answered.ensures.ok in
    let text : c.as_slice.result.now ≡ s.0 = c.as_slice.ensures.value ∙ s.1 ∙ ap (λ text. text ++ s.0) c.clear.ensures.items in
    let before = g.W.Write.contents c.args.writer.now.inner in
    let after = g.W.Write.contents c.write_out.new.writer.inner in
    (s.0, subst (Appends before after) text c.in_ok-write_out.ensures.ok, s.2)
