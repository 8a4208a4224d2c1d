use Rattle.std.proofs.Common.{Some, MatchResult, subst}
use Rattle.std.specs.Iterator.{Drains, YieldsThen}
use Rattle.tinyvec.proofs.splice.TinyVecCanSplice.append_counted.Goals as goal

pub returns-clause-ran : goal.returns-clause-ran
returns-clause-ran g c =
    let ran = c.extend.ensures.items.ran in
    let gives = g.I.Iterator.next_gives in (
      ran.1,
      subst (λ it. MatchResult c.extend.result (λ _. Drains gives it ran.1) (λ refused. YieldsThen gives it ran.1 (Some refused.item) refused.rest)) ran.2 ran.3,
      ran.4,
    )
