use Rattle.std.proofs.Common.{refl, ◌≡◌, ◌++◌, List, ℕ, [], take, pos, sym, ap, ◌∙◌, arith, le_refl, le_trans, append-nil, inl, inr}
use Rattle.tinyvec_slots.specs.Slots.{spare_in, split_at}
use Rattle.tinyvec_slots.proofs.SlotsLemmas.{defaults_are}
use Rattle.tinyvec_script.specs.Script.{start, zeros, State, IsZero}
use Rattle.tinyvec_array.specs.ArrayVec.{array_view, all_slots}
use Rattle.tinyvec_array.specs.SliceVec.{slice_view}
use Rattle.tinyvec.specs.TinyVec.{tiny_view}
use Rattle.std.proofs.KnownBytes.{Appends-nil, Appends-trans, Consumes-nil, Consumes-trans, Consumes-kept}
use Rattle.tinyvec_script.proofs.HistoryLemmas.{feeds_nothing, feeds_then, complete_lines, whole_script, chunk_longer}
use Rattle.tinyvec_io.proofs.Pieces.{AppendsFront-then}
use Rattle.tinyvec_script.proofs.Written.{reported_since}
use Rattle.tinyvec_script.proofs.script.run.Goals as goal

pub loop-piece-init : goal.loop-piece-init
loop-piece-init g c =
    let array = array_view c.new.result in
    let border : array ≡ split_at 0 (all_slots c.new.result) = c.new.ensures.border in
    let empty = defaults_are IsZero (pos 0) (λ x h. h) 4 (spare_in array) c.new.ensures.spare in
    let a_begins : array ≡ zeros = border ∙ ap (split_at 0) (sym (ap spare_in border) ∙ empty) in
    let s_begins : slice_view c.from_slice_len.result ≡ zeros = c.from_slice_len.ensures.value in
    let tiny = c.new-2 in
    let tiny_spare = defaults_are IsZero (pos 0) (λ x h. h) 4 _ tiny.ensures.spare in
    let t_begins : tiny_view tiny.result ≡ start.t = λ t. record { items = tiny.ensures.items t; spare = tiny_spare t; place = tiny.ensures.place t } in
    let text = c.new-3 in
    let x_begins : text.result ≡ start.x = λ t. record { bytes = text.ensures.bytes t; place = text.ensures.place t } in
    let state : State = record { a = array; s = slice_view c.from_slice_len.result; t = tiny_view tiny.result; x = text.result } in
    let begins : state ≡ start = λ t. record { a = a_begins t; s = s_begins t; t = t_begins t; x = x_begins t } in
    record {
      so_far = ([], [], Consumes-nil _, Appends-nil _, rw (begins, c.new-line.ensures) feeds_nothing, le_refl 0);
      empty = c.new-gathered.ensures;
      read_grows = le_refl _;
      write_grows = le_refl _;
      read_none_failed = refl;
      write_none_failed = refl;
    }

pub returns-in-Err-clause-read : goal.returns-in-Err-clause-read
returns-in-Err-clause-read g c =
    let s = c.loop-piece.invariant.so_far in
    λ _. (s.0, s.1, Consumes-kept _ _ _ s.0 s.2 c.in-Err.ensures.err, s.3, complete_lines s.4)

pub returns-in-Err-clause-read_fault : goal.returns-in-Err-clause-read_fault
returns-in-Err-clause-read_fault g c = λ _. reported_since _ _ _ c.loop-piece.invariant.read_grows c.in-Err.ensures.faults.fault

pub returns-in-Err-finish-clause-write_fault : goal.returns-in-Err-finish-clause-write_fault
returns-in-Err-finish-clause-write_fault g c = λ _. reported_since _ _ _ c.loop-piece.invariant.write_grows c.in-Err-finish.ensures.writes.1.fault

pub returns-in-Err-finish-clause-write : goal.returns-in-Err-finish-clause-write
returns-in-Err-finish-clause-write g c =
    let s = c.loop-piece.invariant.so_far in
    let f = c.in-Err-finish.ensures.writes in
    let none : c.in-Ok.count ≡ 0 = c.if-count-eq0.true in
    let last = rw none at c.in-Ok.ensures.bytes in
    λ _. (s.0, s.1 ++ f.0, rw append-nil at (Consumes-trans _ _ _ s.0 [] s.2 last), AppendsFront-then _ _ _ s.1 f.0 s.3 f.1.err, inr (whole_script s.4 f.2))

pub returns-in-Err-answer_chunk-clause-write : goal.returns-in-Err-answer_chunk-clause-write
returns-in-Err-answer_chunk-clause-write g c =
    let s = c.loop-piece.invariant.so_far in
    let f = c.in-Err-answer_chunk.ensures.writes in
    let bytes : List ℕ = take c.in-Ok.count c.read_some.new.buf in
    λ _. (s.0 ++ bytes, s.1 ++ f.0, Consumes-trans _ _ _ s.0 bytes s.2 c.in-Ok.ensures.bytes, AppendsFront-then _ _ _ s.1 f.0 s.3 f.1.err, inl (complete_lines (feeds_then s.4 f.2)))

pub returns-in-Err-answer_chunk-clause-write_fault : goal.returns-in-Err-answer_chunk-clause-write_fault
returns-in-Err-answer_chunk-clause-write_fault g c = λ _. reported_since _ _ _ c.loop-piece.invariant.write_grows c.in-Err-answer_chunk.ensures.writes.1.fault

pub returns-in-Ok-finish-clause-ok : goal.returns-in-Ok-finish-clause-ok
returns-in-Ok-finish-clause-ok g c =
    let s = c.loop-piece.invariant.so_far in
    let f = c.in-Ok-finish.ensures.writes in
    let none : c.in-Ok.count ≡ 0 = c.if-count-eq0.true in
    let last = rw none at c.in-Ok.ensures.bytes in
    (s.0, s.1 ++ f.0, rw append-nil at (Consumes-trans _ _ _ s.0 [] s.2 last), c.in-Ok.ensures.end none, Appends-trans _ _ _ s.1 f.0 s.3 f.1.ok, whole_script s.4 f.2)

pub loop-piece-preserved : goal.loop-piece-preserved
loop-piece-preserved g c =
    let s = c.loop-piece.invariant.so_far in
    let f = c.in-Ok-answer_chunk.ensures.writes in
    let bytes : List ℕ = take c.in-Ok.count c.read_some.new.buf in
    let longer = chunk_longer s.0 c.read_some.new.buf c.loop-piece._piece c.in-Ok.count s.5 c.in-Ok.ensures.bound.1 c.if-count-eq0.false in
    record {
      so_far = (
        s.0 ++ bytes,
        s.1 ++ f.0,
        Consumes-trans _ _ _ s.0 bytes s.2 c.in-Ok.ensures.bytes,
        Appends-trans _ _ _ s.1 f.0 s.3 f.1.ok,
        feeds_then s.4 f.2,
        longer,
      );
      empty = c.in-Ok-answer_chunk.ensures.gathered;
      read_grows = le_trans c.loop-piece.invariant.read_grows c.in-Ok.ensures.faults.grows;
      write_grows = le_trans c.loop-piece.invariant.write_grows c.in-Ok-answer_chunk.ensures.writes.1.grows;
      read_none_failed = c.in-Ok.ensures.failed.exact ∙ c.loop-piece.invariant.read_none_failed;
      write_none_failed = f.1.failed.exact ∙ c.loop-piece.invariant.write_none_failed;
    }

pub returns-clause-too_long : goal.returns-clause-too_long
returns-clause-too_long g c =
    let s = c.loop-piece.invariant.so_far in
    λ _. (s.0, s.1, s.2, omega arith, s.3, complete_lines s.4)
