use Rattle.std.proofs.Common.{◌∙◌, ap, Some, rules}
use Rattle.tinyvec_slots.proofs.ComparingLemmas.{partial_order_at, partial_order_long, first_of, unlike_at, alike_all}
use Rattle.tinyvec_slots.proofs.tuned.comparing.partial_order_at.Goals as goal

pub returns-then-first-both : goal.returns-then-first-both
returns-then-first-both g c =
    let E = g.T.PartialEq.eq in
    let a = c.args.a.now in
    let b = c.args.b.now in
    let n = c.args.first in
    let m = c.min-both.result in
    let x = c.index-a-first.result in
    let y = c.index-b-first.result in
    let first = first_of E n m a b c.min-both.ensures c.requires in
    c.partial_cmp.ensures ∙ partial_order_at g.T.PartialEq.eq g.met.T.PartialOrd.laws.matches_eq n m a b x y c.if-first-both.true (search rules) (search rules) first.1
    c.index-a-first.is c.index-b-first.is (unlike_at E n m a b x y first c.if-first-both.true c.index-a-first.is c.index-b-first.is)

pub returns : goal.returns
returns g c =
    let E = g.T.PartialEq.eq in
    let a = c.args.a.now in
    let b = c.args.b.now in
    let n = c.args.first in
    let m = c.min-both.result in
    ap Some c.cmp.ensures ∙ partial_order_long g.T.PartialEq.eq g.met.T.PartialOrd.laws.matches_eq m a b c.min-both.ensures
    (alike_all E n m a b (first_of E n m a b c.min-both.ensures c.requires) c.if-first-both.false (search rules) (search rules))
