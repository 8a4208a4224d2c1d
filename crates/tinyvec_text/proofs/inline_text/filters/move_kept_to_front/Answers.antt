use Rattle.std.proofs.Common.{◌+◌, ◌++◌, true, false, refl, sym, ap, subst, ◌∙◌, IsUtf8, length, take, drop, length-drop, append-nil, arith, of_calls}
use Rattle.std.proofs.lemmas.Fn.{called}
use Rattle.tinyvec_text.specs.InlineText.{IsFirstChar}
use Rattle.tinyvec_text.proofs.Boundaries.{from_there}
use Rattle.tinyvec_text.proofs.Filters.{retain_none, retain_more, retain_all, retains_chars}
use Rattle.tinyvec_text.proofs.inline_text.filters.move_kept_to_front.Goals as goal

pub loop-read-init : goal.loop-read-init
loop-read-init g c = record {
  len = refl;
  order = omega arith;
  within = omega arith;
  callable = c.requires.callable;
  retained = retain_none g.F.FnMut c.args.keep.now c.args.bytes.now c.requires.utf8;
}

pub first_char-c-requires-clause-utf8 : goal.first_char-c-requires-clause-utf8
first_char-c-requires-clause-utf8 g c =
    let at = c.loop-read in
    subst IsUtf8 (sym (from_there at.bytes _ at.read refl)) at.invariant.retained.rest

pub loop-read-preserved : goal.loop-read-preserved
loop-read-preserved g c =
    let at = c.loop-read in
    let x = c.first_char-c.result.0 in
    let n = c.first_char-c.result.1 in
    let inv = at.invariant in
    let here = subst (λ l. IsFirstChar l x n) (from_there at.bytes _ at.read refl) c.first_char-c.ensures in
    let size = length-drop at.read at.bytes in
    let fits = here.in_bounds in
    let len = inv.len in
    let order = inv.order in
    let within = inv.within in
    elim c.if-keep.branch [
      | goal.then-keep w ↦ let long = ap length w.bytes-is ∙ w.copy_down.auto.bytes in let kept = w.kept-is in record {
        len = long ∙ len;
        order = omega (arith, order, kept);
        within = omega (arith, fits, size, len, within);
        callable = search of_calls;
        retained = retain_more g.F.FnMut c.args.keep.now c.args.bytes.now at.keep _ at.bytes c.if-keep.bytes at.read at.kept c.if-keep.kept n x true inv.retained (called g.F.FnMut c.keep.ensures w.if-keep.true) here
            ((λ i. take (kept i) (w.bytes-is i)) ∙ w.copy_down.ensures.front ∙ ap (λ l. take at.kept at.bytes ++ l) here.encoded) (ap (drop (at.read + n)) w.bytes-is ∙ w.copy_down.ensures.rest);
      }
      | goal.else-keep w ↦ let long = ap length w.bytes-is in let kept = w.kept-is in record {
        len = long ∙ len;
        order = omega (arith, order, kept);
        within = omega (arith, fits, size, len, within);
        callable = search of_calls;
        retained = retain_more g.F.FnMut c.args.keep.now c.args.bytes.now at.keep _ at.bytes c.if-keep.bytes at.read at.kept c.if-keep.kept n x false inv.retained (called g.F.FnMut c.keep.ensures w.if-keep.false) here
            ((λ i. take (kept i) (w.bytes-is i)) ∙ sym (append-nil _)) (ap (drop (at.read + n)) w.bytes-is);
      }
    ]

pub returns : goal.returns
returns g c =
    let at = c.loop-read in
    let inv = at.invariant in
    let past = c.loop-read-test.false in
    let len = inv.len in
    let order = inv.order in
    let within = inv.within in
    let asked = retain_all g.F.FnMut c.args.keep.now c.args.bytes.now at.keep at.bytes at.read at.kept (omega (arith, past, len)) inv.retained in
    record {
      filtered = retains_chars g.F.FnMut c.args.keep.now c.args.bytes.now _ _ asked;
      asked = asked;
      bound = omega (arith, order, within);
      utf8 = inv.retained.front;
    }
