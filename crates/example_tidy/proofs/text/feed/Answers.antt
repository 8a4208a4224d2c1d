use Rattle.std.proofs.Common.{◌≡◌, ◌∙◌, ◌-◌, ◌≤◌, ◌++◌, ◌∷◌, [], false, true, ap, append-nil, append_assoc, arith, le_refl, length, length-append, refl, subst, sym}
use Rattle.std.proofs.Math.Nat.{lt_of_not-le}
use Rattle.tinyvec_slots.proofs.CloneLemmas.{on_err}
use Rattle.tinyvec.specs.TinyVec.{tiny_items, tiny_len, tiny_capacity}
use Rattle.example_tidy.specs.Tidy.{Advances}
use Rattle.example_tidy.proofs.Feeding.{advances_none, advances_piece, advances_then}
use Rattle.example_tidy.proofs.Refusals.{refuses_piece, refuses_then}
use Rattle.example_tidy.proofs.text.feed.Goals as goal

pub loop-end-init : goal.loop-end-init
loop-end-init c = record {
  so_far = ([], [], refl, sym (append-nil (tiny_items c.args.output.now)), advances_none (tiny_items c.args.line.now));
  line_room = le_refl _;
  room = le_refl _;
}

pub loop-end-preserved : goal.loop-end-preserved
loop-end-preserved c =
    let inv = c.loop-end.invariant in
    let s = inv.so_far in
    let end = c.in-Some.end.now in
    let done = c.in_ok-feed_end.ensures in
    let f = done.ok in
    record {
      so_far = (
        s.0 ++ (end ++ 10 ∷ []),
        s.1 ++ f.0,
        rw (s.2, c.in-Some.ensures.whole) (simp append_assoc),
        f.1 ∙ ap (λ text. text ++ f.0) s.3 ∙ append_assoc (tiny_items c.args.output.now) s.1 f.0,
        advances_then _ _ _ s.0 (end ++ 10 ∷ []) s.1 f.0 s.4 f.2,
      );
      line_room = omega (arith, inv.line_room, done.line_room);
      room = omega (arith, inv.room, done.capacity);
    }

pub returns-in_err-feed_end-clause-refused : goal.returns-in_err-feed_end-clause-refused
returns-in_err-feed_end-clause-refused c =
    let inv = c.loop-end.invariant in
    let s = inv.so_far in
    let end = c.in-Some.end.now in
    let after = c.in-Some.after.now in
    let bytes = c.args.bytes.now in
    let old = tiny_items c.args.output.now in
    let f = c.in_err-feed_end.ensures.refused in
    let whole : bytes ≡ s.0 ++ ((end ++ 10 ∷ []) ++ after) = rw (s.2, c.in-Some.ensures.whole) (simp append_assoc) in
    on_err c.from_residual.result (
      s.1 ++ [],
      f.0,
      f.1 ∙ s.3 ∙ ap (λ text. old ++ text) (sym (append-nil s.1)),
      refuses_then _ s.0 _ bytes (end ++ 10 ∷ []) after s.1 [] f.0 _ _ _ _ whole s.4 f.2 inv.line_room
          (omega (arith, inv.room, ap length s.3, length-append old s.1)),
    )

pub returns-in_err-extend_from_slice_copy-clause-refused : goal.returns-in_err-extend_from_slice_copy-clause-refused
returns-in_err-extend_from_slice_copy-clause-refused c =
    let inv = c.loop-end.invariant in
    let s = inv.so_far in
    let rest = c.loop-end.rest.now in
    let old = tiny_items c.args.output.now in
    let output = c.loop-end.output in
    let line = tiny_items c.loop-end.line in
    let place = tiny_capacity c.loop-end.line in
    let room = tiny_capacity output - tiny_len output in
    let held : length line ≤ place = omega (arith, c.len-len.ensures.value, c.len-len.ensures.fits) in
    let full = lt_of_not-le (λ fits. let never : false ≡ true = c.in_err-extend_from_slice_copy.ensures.succeeds fits in absurd cc) in
    on_err c.from_residual-in_err-extend_from_slice_copy.result (
      s.1 ++ [],
      _,
      s.3 ∙ ap (λ text. old ++ text) (sym (append-nil s.1)),
      refuses_then _ s.0 line c.args.bytes.now rest [] s.1 [] _ _ place _ room (s.2 ∙ ap (λ back. s.0 ++ back) (sym (append-nil rest))) s.4
          (refuses_piece line rest place place room c.in_default.ensures.none held full (le_refl _)) inv.line_room
          (omega (arith, inv.room, ap length s.3, length-append old s.1)),
    )

pub returns-clause-ok : goal.returns-clause-ok
returns-clause-ok c =
    let s = c.loop-end.invariant.so_far in
    let old = tiny_items c.args.line.now in
    let new = tiny_items c.extend_from_slice_copy.new.self in
    let rest = c.loop-end.rest.now in
    let line = tiny_items c.loop-end.line in
    let read : Advances old (s.0 ++ rest) (s.1 ++ []) (line ++ rest) = advances_then old line (line ++ rest) s.0 rest s.1 [] s.4 (advances_piece line rest c.in_default.ensures.none) in (
      s.1,
      s.3,
      subst (λ bytes. Advances old bytes s.1 new) (sym s.2) (subst (λ said. Advances old (s.0 ++ rest) said new) (append-nil s.1)
          (subst (λ text. Advances old (s.0 ++ rest) (s.1 ++ []) text) (sym c.in_ok-extend_from_slice_copy.ensures.ok.items) read)),
    )
