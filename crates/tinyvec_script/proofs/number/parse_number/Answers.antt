use Rattle.std.proofs.Common.{codes, None, Some, inl, inr, arith}
use Rattle.std.proofs.lemmas.Slice.Eq.{strip_prefix_is}
use Rattle.std.proofs.lemmas.Bool.Decides.{Decides-eqb}
use Rattle.tinyvec_script.proofs.Numbers.{above_is_none, unread_is_none, below_is_none}
use Rattle.tinyvec_script.proofs.number.parse_number.Goals.{then-size-eq0-via-then-size-eq0, then-size-eq0-via-else-size-eq0+then-size-2}
use Rattle.tinyvec_script.proofs.number.parse_number.Goals as goal

pub returns-then-size : goal.returns-then-size
returns-then-size c =
    above_is_none c.args.bytes.now c.in_ok-size.size (strip_prefix_is Decides-eqb c.args.bytes.now (codes "-") None c.in_default.ensures.cases) c.in_ok-size.ensures (omega arith) c.if-size.true

pub returns-in_err-size-2 : goal.returns-in_err-size-2
returns-in_err-size-2 c = rw c.from_residual-in_err-size-2.ensures
    (unread_is_none c.args.bytes.now c.in-Some.digits.now (strip_prefix_is Decides-eqb c.args.bytes.now (codes "-") (Some c.in-Some.digits) c.in-Some.ensures.cases) c.in_err-size-2.ensures)

pub returns-then-size-eq0 : goal.returns-then-size-eq0
returns-then-size-eq0 c =
    let is = strip_prefix_is Decides-eqb c.args.bytes.now (codes "-") (Some c.in-Some.digits) c.in-Some.ensures.cases in
    below_is_none c.args.bytes.now c.in-Some.digits.now c.in_ok-size-2.size is c.in_ok-size-2.ensures (omega arith) (elim c.then-size-eq0.branch [
      | then-size-eq0-via-then-size-eq0 w ↦ inl w.if-size-eq0.true
      | then-size-eq0-via-else-size-eq0+then-size-2 w ↦ inr w.if-size-2.true
    ])
