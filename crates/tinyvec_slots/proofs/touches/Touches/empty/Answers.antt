use Rattle.std.proofs.Common.{◌≡◌, ◌+◌, ◌-◌, ◌++◌, ◌∷◌, ◌∙◌, [], length, refl, sym, ap, append-nil, append_assoc, length-set, arith, take, take_all}
use Rattle.std.proofs.lemmas.List.{take_more_set, length_push}
use Rattle.std.proofs.lemmas.List.Elements.{All-nil, All-push}
use Rattle.tinyvec_slots.proofs.touches.Touches.empty.Goals as goal

pub loop-i-init : goal.loop-i-init
loop-i-init g c =
    let none : c.args.at - c.args.at ≡ 0 = omega arith in record {
      len = refl;
      emptied = ([], (sym none, All-nil _), sym (append-nil _));
      count = omega (arith, none);
    }

pub loop-i-preserved : goal.loop-i-preserved
loop-i-preserved g c =
    let turn = c.loop-i in
    let inv = turn.invariant in
    let xs = turn.slots in
    let ds = inv.emptied.0 in
    let d = c.take-taken.ensures.after.0 in
    let put = c.take-taken.ensures.after.2 in
    let one : turn.i - c.args.at + 1 ≡ turn.i + 1 - c.args.at = omega arith in record {
      len = ap length put ∙ length-set xs turn.i d ∙ inv.len;
      emptied = (
        ds ++ d ∷ [],
        (length_push ds d ∙ omega (arith, inv.emptied.1.0, one), All-push g.T.Default.is_default ds d inv.emptied.1.1 c.take-taken.ensures.after.1),
        ap (take (turn.i + 1)) put ∙ take_more_set xs turn.i d (omega (arith, inv.len)) ∙ ap (λ l. l ++ d ∷ []) inv.emptied.2 ∙ append_assoc _ ds _,
      );
      count = c.take-taken.ensures.count ∙ omega (arith, inv.count, one);
    }

pub returns-clause-emptied : goal.returns-clause-emptied
returns-clause-emptied g c =
    let inv = c.loop-i.invariant in
    let last : c.loop-i.i ≡ length c.args.slots.now = omega arith in (
      inv.emptied.0,
      (inv.emptied.1.0 ∙ ap (λ n. n - c.args.at) last, inv.emptied.1.1),
      sym (take_all c.loop-i.i c.loop-i.slots (omega (arith, inv.len, last))) ∙ inv.emptied.2,
    )
