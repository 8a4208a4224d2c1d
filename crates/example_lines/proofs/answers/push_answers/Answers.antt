use Rattle.std.proofs.Common.{◌∙◌, ◌++◌, ◌∷◌, [], ap, refl, sym, append-nil, append_assoc}
use Rattle.example_lines.proofs.Answering.{advances_line, advances_none, advances_rest, advances_then}
use Rattle.example_lines.proofs.answers.push_answers.Goals as goal

pub loop-end-init : goal.loop-end-init
loop-end-init g c = ([], [], refl, sym (append-nil c.args.text.now.items), advances_none g.A.Answer.IsAnswer c.args.program.now c.args.line.now.items)

pub returns-in_err-push_answer-clause-some : goal.returns-in_err-push_answer-clause-some
returns-in_err-push_answer-clause-some g c =
    let s = c.loop-end.invariant in
    (s.0, c.loop-end.rest.now, s.1, c.loop-end.line.items, s.2, c.in_err-push_answer.ensures.refused ∙ s.3, (c.loop-end.program, s.4, c.in_err-push_answer.ensures.kept))

pub returns-in_err-extend_from_slice-clause-some : goal.returns-in_err-extend_from_slice-clause-some
returns-in_err-extend_from_slice-clause-some g c =
    let s = c.loop-end.invariant in
    (s.0, c.loop-end.rest.now, s.1, c.loop-end.line.items, s.2, s.3, (c.loop-end.program, s.4, λ _ _ _ is. is))

pub loop-end-preserved : goal.loop-end-preserved
loop-end-preserved g c =
    let s = c.loop-end.invariant in
    let end = c.in-Some.end.now in
    let before = c.loop-end.line.items in
    let next = c.push_answer.new.line.items in
    let f = c.in_ok-push_answer.ensures.ok in
    let line = advances_line g.A.Answer.IsAnswer c.loop-end.program c.push_answer.new.program before (before ++ end) end f.0 next c.in-Some.ensures.line refl f.2 c.in_ok-push_answer.ensures.next in (
      s.0 ++ (end ++ 10 ∷ []),
      s.1 ++ f.0,
      rw (s.2, c.in-Some.ensures.whole) (simp append_assoc),
      f.1 ∙ ap (λ text. text ++ f.0) s.3 ∙ append_assoc c.args.text.now.items s.1 f.0,
      advances_then g.A.Answer.IsAnswer c.args.program.now c.loop-end.program c.push_answer.new.program c.args.line.now.items before next s.0 (end ++ 10 ∷ []) s.1 f.0 s.4 line,
    )

pub returns-clause-ok : goal.returns-clause-ok
returns-clause-ok g c =
    let s = c.loop-end.invariant in
    let read = advances_rest g.A.Answer.IsAnswer c.args.program.now c.loop-end.program c.args.line.now.items c.loop-end.line.items c.extend_from_slice.new.self.items c.args.bytes.now s.0 s.1 c.loop-end.rest.now s.2 s.4 c.in_default.ensures.none c.in_ok-extend_from_slice.ensures.items in
    (s.1, s.3, read)

pub returns-clause-some : goal.returns-clause-some
returns-clause-some g c =
    let s = c.loop-end.invariant in
    let bytes = c.args.bytes.now in
    let next = c.extend_from_slice.new.self.items in
    let read = advances_rest g.A.Answer.IsAnswer c.args.program.now c.loop-end.program c.args.line.now.items c.loop-end.line.items next bytes s.0 s.1 c.loop-end.rest.now s.2 s.4 c.in_default.ensures.none c.in_ok-extend_from_slice.ensures.items in
    (bytes, [], s.1, next, sym (append-nil bytes), s.3, (c.loop-end.program, read, λ _ _ _ is. is))
