use Rattle.std.proofs.Common.{◌≡◌, ◌≤◌, ◌+◌, ◌++◌, List, ℕ, [], length, take, sym, subst, rules, arith, append-nil, length-append, length-take-le, Err}
use Rattle.std.proofs.KnownBytes.{Appends-nil, Appends-trans, Appends-kept, Consumes-nil, Consumes-trans}
use Rattle.std.proofs.lemmas.Result.{on_ok_weaker}
use Rattle.example_tidy.specs.Tidy.{TidiedUpTo}
use Rattle.example_tidy.specs.declared.stream.TidyError.TheVariants.{Memory, Write}
use Rattle.example_tidy.proofs.Feeding.{nothing_yet, begun_front, begun_whole}
use Rattle.example_tidy.proofs.Lines.{tidied_again}
use Rattle.example_tidy.proofs.Refusals.{before_last, long_not_short}
use Rattle.example_tidy.proofs.Starts.{short_consumed}
use Rattle.example_tidy.proofs.stream.tidy.Goals as goal

pub loop-piece-init : goal.loop-piece-init
loop-piece-init g c = record {
  so_far = ([], [], Consumes-nil _, Appends-nil _, subst (TidiedUpTo [] []) (sym c.new-line.ensures.items) nothing_yet, omega arith);
  line_room = search rules;
  chunk = search rules;
  read_grows = omega arith;
  write_grows = omega arith;
  read_none_failed = search rules;
  write_none_failed = search rules;
}

pub returns-then-count-eq0-clause-ok : goal.returns-then-count-eq0-clause-ok
returns-then-count-eq0-clause-ok g c =
    let s = c.loop-piece.invariant.so_far in
    let none : c.in-Ok.count ≡ 0 = c.if-count-eq0.true in
    let last = rw none at c.in-Ok.ensures.bytes in
    let all = rw append-nil at (Consumes-trans _ _ _ s.0 [] s.2 last) in
    let so_far = subst (TidiedUpTo s.0 s.1) (sym c.as_slice.ensures) s.4 in
    on_ok_weaker c.finish.result (λ f. let tidied = f.2 s.0 s.1 so_far in (
      s.0,
      s.1 ++ f.0,
      all,
      c.in-Ok.ensures.end none,
      Appends-trans _ _ _ s.1 f.0 s.3 f.1,
      tidied,
      tidied_again s.0 (s.1 ++ f.0) tidied,
    )) c.finish.ensures.ok

pub returns-then-count-eq0-clause-memory : goal.returns-then-count-eq0-clause-memory
returns-then-count-eq0-clause-memory g c =
    let s = c.loop-piece.invariant.so_far in
    let none : c.in-Ok.count ≡ 0 = c.if-count-eq0.true in
    let last = rw none at c.in-Ok.ensures.bytes in
    let all = rw append-nil at (Consumes-trans _ _ _ s.0 [] s.2 last) in
    λ is. (
      s.0,
      s.1,
      all,
      Appends-kept _ _ _ s.1 s.3 (c.finish.ensures.memory is),
      before_last s.0 s.1 c.as_slice.result.now (subst (TidiedUpTo s.0 s.1) (sym c.as_slice.ensures) s.4) (c.finish.ensures.long is),
    )

pub returns-then-count-eq0-clause-short : goal.returns-then-count-eq0-clause-short
returns-then-count-eq0-clause-short g c = λ text known each is.
    let m = returns-then-count-eq0-clause-memory g c is in
    long_not_short m.0 m.1 m.4 (short_consumed (g.R.Read.remaining c.args.reader.now.inner) (g.R.Read.remaining c.read_some.new.self.inner) text m.0 known m.2 each)

pub returns-then-count-eq0-clause-write : goal.returns-then-count-eq0-clause-write
returns-then-count-eq0-clause-write g c =
    let s = c.loop-piece.invariant.so_far in
    let none : c.in-Ok.count ≡ 0 = c.if-count-eq0.true in
    let last = rw none at c.in-Ok.ensures.bytes in
    let all = rw append-nil at (Consumes-trans _ _ _ s.0 [] s.2 last) in
    let so_far = subst (TidiedUpTo s.0 s.1) (sym c.as_slice.ensures) s.4 in
    λ error is. let f = c.finish.ensures.write error is in
    (s.0, s.1 ++ f.0, all, Appends-trans _ _ _ s.1 f.0 s.3 f.2, begun_whole s.0 s.1 f.0 f.1 (f.3 s.0 s.1 so_far))

pub returns-in_err-tidy_chunk-clause-memory : goal.returns-in_err-tidy_chunk-clause-memory
returns-in_err-tidy_chunk-clause-memory g c =
    let s = c.loop-piece.invariant.so_far in
    let bytes : List ℕ = take c.in-Ok.count c.read_some.new.buf in
    let few : length bytes ≤ 4016 = omega (arith, c.in-Ok.ensures.bound.0, length-take-le c.in-Ok.count c.read_some.new.buf c.in-Ok.ensures.bound.0, c.loop-piece.invariant.chunk) in
    λ is. let was : c.tidy_chunk.result ≡ Err Memory = search rules in
    let f = c.tidy_chunk.ensures.memory was c.loop-piece.invariant.line_room few in (
      s.0 ++ bytes,
      s.1 ++ f.0,
      Consumes-trans _ _ _ s.0 bytes s.2 c.in-Ok.ensures.bytes,
      Appends-trans _ _ _ s.1 f.0 s.3 f.1,
      f.2 s.0 s.1 s.4,
    )

pub returns-in_err-tidy_chunk-clause-short : goal.returns-in_err-tidy_chunk-clause-short
returns-in_err-tidy_chunk-clause-short g c = λ text known each is.
    let m = returns-in_err-tidy_chunk-clause-memory g c is in
    long_not_short m.0 m.1 m.4 (short_consumed (g.R.Read.remaining c.args.reader.now.inner) (g.R.Read.remaining c.read_some.new.self.inner) text m.0 known m.2 each)

pub returns-in_err-tidy_chunk-clause-write : goal.returns-in_err-tidy_chunk-clause-write
returns-in_err-tidy_chunk-clause-write g c =
    let s = c.loop-piece.invariant.so_far in
    let bytes : List ℕ = take c.in-Ok.count c.read_some.new.buf in
    λ error is. let was : c.tidy_chunk.result ≡ Err (Write error) = search rules in
    let f = c.tidy_chunk.ensures.write error was in (
      s.0 ++ bytes,
      s.1 ++ f.0,
      Consumes-trans _ _ _ s.0 bytes s.2 c.in-Ok.ensures.bytes,
      Appends-trans _ _ _ s.1 f.0 s.3 f.2,
      begun_front (s.0 ++ bytes) s.1 f.0 f.1 (f.3 s.0 s.1 s.4),
    )

pub loop-piece-preserved : goal.loop-piece-preserved
loop-piece-preserved g c =
    let s = c.loop-piece.invariant.so_far in
    let f = c.in_ok-tidy_chunk.ensures.ok in
    let bytes : List ℕ = take c.in-Ok.count c.read_some.new.buf in
    let longer : c.loop-piece._piece + 1 ≤ length (s.0 ++ bytes) = omega (arith, length-append s.0 bytes, c.in-Ok.ensures.bound.1, c.if-count-eq0.false, s.5) in
    record {
      so_far = (
        s.0 ++ bytes,
        s.1 ++ f.0,
        Consumes-trans _ _ _ s.0 bytes s.2 c.in-Ok.ensures.bytes,
        Appends-trans _ _ _ s.1 f.0 s.3 f.1,
        f.2 s.0 s.1 s.4,
        longer,
      );
      line_room = omega (arith, c.loop-piece.invariant.line_room, c.in_ok-tidy_chunk.ensures.line_room);
      chunk = search rules;
      read_grows = omega (arith, c.in-Ok.ensures.faults.grows);
      write_grows = omega (arith, c.in_ok-tidy_chunk.ensures.faults_grow);
      read_none_failed = search rules;
      write_none_failed = search rules;
    }
