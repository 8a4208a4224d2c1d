use Rattle.std.proofs.Common.{◌≡◌, ◌∙◌, ◌≤◌, ◌+◌, ◌++◌, List, ℕ, [], ap, length, map, take, inl, inr, sym, subst, rules, arith, append_assoc, append-nil, length-append, length-take-le, Err}
use Rattle.std.proofs.KnownBytes.{Appends-trans, Appends-kept, Consumes-trans}
use Rattle.tinyvec_io.proofs.Pieces.{AppendsFront-then}
use Rattle.std.specs.Io.KnownBytes.{Consumes}
use Rattle.std.specs.Str.Lines.{strip_carriage_return}
use Rattle.tinyvec_io.specs.Lines.{last_line}
use Rattle.example_lines.specs.Answers.{AnswersEach}
use Rattle.example_lines.specs.declared.failure.Stop.TheVariants.{Memory, Output}
use Rattle.example_lines.proofs.Answering.{all_answered}
use Rattle.example_lines.proofs.answers.answer_lines.Goals as goal

pub returns-in-Ok-finish-clause-ok : goal.returns-in-Ok-finish-clause-ok
returns-in-Ok-finish-clause-ok g c =
    let s = c.loop-piece.invariant.so_far in
    let none : c.in-Ok.count ≡ 0 = c.if-count-eq0.true in
    let last = rw none at c.in-Ok.ensures.bytes in
    let all = rw append-nil at (Consumes-trans _ _ _ s.0 [] s.2 last) in
    let f = c.in-Ok-finish.ensures.ok in
    let answered = all_answered g.A.Answer.IsAnswer c.args.program.now c.loop-piece.program c.finish.new.program s.0 s.1 c.loop-piece.line.items f.0 s.4
    (subst (λ line. AnswersEach g.A.Answer.IsAnswer c.loop-piece.program (map strip_carriage_return (last_line line)) f.0 c.finish.new.program) c.as_slice.ensures.value f.2) in
    (s.0, s.1 ++ f.0, all, c.in-Ok.ensures.end none, Appends-trans _ _ _ s.1 f.0 s.3 f.1, answered)

pub returns-in-Err-Memory-clause-memory : goal.returns-in-Err-Memory-clause-memory
returns-in-Err-Memory-clause-memory g c = λ _.
    let was : c.finish.result ≡ Err Memory = search rules in
    let s = c.loop-piece.invariant.so_far in
    let none : c.in-Ok.count ≡ 0 = c.if-count-eq0.true in
    let last = rw none at c.in-Ok.ensures.bytes in
    let all = rw append-nil at (Consumes-trans _ _ _ s.0 [] s.2 last) in
    let before = g.R.Read.remaining c.args.reader.now.inner in
    let after = g.R.Read.remaining c.read_some.new.self.inner in
    let f = c.finish.ensures.memory was in
    (s.0, [], s.1, c.loop-piece.line.items, subst (Consumes before after) (sym (append-nil s.0)) all, Appends-kept _ _ _ s.1 s.3 f.0, (c.loop-piece.program, s.4, f.1))

pub returns-in-Err-Output-clause-output : goal.returns-in-Err-Output-clause-output
returns-in-Err-Output-clause-output g c = λ error is.
    let was : c.finish.result ≡ Err (Output error) = search rules in
    let s = c.loop-piece.invariant.so_far in
    let none : c.in-Ok.count ≡ 0 = c.if-count-eq0.true in
    let last = rw none at c.in-Ok.ensures.bytes in
    let all = rw append-nil at (Consumes-trans _ _ _ s.0 [] s.2 last) in
    let f = c.finish.ensures.output error was in
    let answered = all_answered g.A.Answer.IsAnswer c.args.program.now c.loop-piece.program c.finish.new.program s.0 s.1 c.loop-piece.line.items f.0 s.4
    (subst (λ line. AnswersEach g.A.Answer.IsAnswer c.loop-piece.program (map strip_carriage_return (last_line line)) f.0 c.finish.new.program) c.as_slice.ensures.value f.2) in
    let before = g.R.Read.remaining c.args.reader.now.inner in
    let after = g.R.Read.remaining c.read_some.new.self.inner in
    (s.0, [], s.1 ++ f.0, [], subst (Consumes before after) (sym (append-nil s.0)) all, AppendsFront-then _ _ _ s.1 f.0 s.3 f.1, inr answered)

pub returns-in-Err-Memory-answer_chunk-clause-memory : goal.returns-in-Err-Memory-answer_chunk-clause-memory
returns-in-Err-Memory-answer_chunk-clause-memory g c = λ _.
    let was : c.answer_chunk.result ≡ Err Memory = search rules in
    let s = c.loop-piece.invariant.so_far in
    let bytes : List ℕ = take c.in-Ok.count c.read_some.new.buf in
    let all = Consumes-trans _ _ _ s.0 bytes s.2 c.in-Ok.ensures.bytes in
    let before = g.R.Read.remaining c.args.reader.now.inner in
    let after = g.R.Read.remaining c.read_some.new.self.inner in
    let f = c.answer_chunk.ensures.memory was in (
      s.0 ++ f.0,
      f.1,
      s.1 ++ f.2,
      f.3,
      subst (Consumes before after) (ap (λ read. s.0 ++ read) f.4 ∙ sym (append_assoc s.0 f.0 f.1)) all,
      Appends-trans _ _ _ s.1 f.2 s.3 f.5,
      (f.6.0, f.6.1 c.args.program.now s.0 s.1 s.4, f.6.2),
    )

pub returns-in-Err-Output-answer_chunk-clause-output : goal.returns-in-Err-Output-answer_chunk-clause-output
returns-in-Err-Output-answer_chunk-clause-output g c = λ error is.
    let was : c.answer_chunk.result ≡ Err (Output error) = search rules in
    let s = c.loop-piece.invariant.so_far in
    let bytes : List ℕ = take c.in-Ok.count c.read_some.new.buf in
    let all = Consumes-trans _ _ _ s.0 bytes s.2 c.in-Ok.ensures.bytes in
    let before = g.R.Read.remaining c.args.reader.now.inner in
    let after = g.R.Read.remaining c.read_some.new.self.inner in
    let f = c.answer_chunk.ensures.output error was in (
      s.0 ++ f.0,
      f.1,
      s.1 ++ f.2,
      f.3,
      subst (Consumes before after) (ap (λ read. s.0 ++ read) f.4 ∙ sym (append_assoc s.0 f.0 f.1)) all,
      AppendsFront-then _ _ _ s.1 f.2 s.3 f.5,
      inl (f.6.0, f.6.1 c.args.program.now s.0 s.1 s.4, f.6.2),
    )

pub loop-piece-preserved : goal.loop-piece-preserved
loop-piece-preserved g c =
    let s = c.loop-piece.invariant.so_far in
    let bytes : List ℕ = take c.in-Ok.count c.read_some.new.buf in
    let all = Consumes-trans _ _ _ s.0 bytes s.2 c.in-Ok.ensures.bytes in
    let f = c.in-Ok-answer_chunk.ensures.ok in
    let longer : c.loop-piece._piece + 1 ≤ length (s.0 ++ bytes) =
    omega (arith, length-append s.0 bytes, length-take-le c.in-Ok.count c.read_some.new.buf c.in-Ok.ensures.bound.0, c.if-count-eq0.false, s.5) in
    record {
      so_far = (s.0 ++ bytes, s.1 ++ f.0, all, Appends-trans _ _ _ s.1 f.0 s.3 f.1, f.2 c.args.program.now s.0 s.1 s.4, longer);
      read_grows = omega (arith, c.loop-piece.invariant.read_grows, c.in-Ok.ensures.faults.grows);
      write_grows = omega (arith, c.loop-piece.invariant.write_grows, c.in-Ok-answer_chunk.ensures.faults.grows);
      read_none_failed = search rules;
      write_none_failed = search rules;
    }
