use Rattle.std.proofs.Common.{rules}
use Rattle.std.proofs.lemmas.Bool.{false≢true}
use Rattle.tinyvec_slots.proofs.CloneLemmas.{on_err}
use Rattle.tinyvec.proofs.PlaceLemmas.{no_room}
use Rattle.tinyvec_text.proofs.Extending.{by_texts, all_fit, pushed_more, refused_at}
use Rattle.tinyvec_text.proofs.inline_text.extending.InlineTextExtendRefStr.extend.Goals as goal

pub returns-in_err-push_str-clause-known : goal.returns-in_err-push_str-clause-known
returns-in_err-push_str-clause-known g c = λ all yields enough.
    let at = c.loop-s in
    let fits = all_fit (by_texts (λ x. x.now)) g.I.IntoIter.Iterator.next_gives c.into_iter-rest.result _ c.in-Some.s all at.invariant.pushed
    (yields _ c.into_iter-rest.ensures.into_iter_gives) (at.rest, at.yielded_by, c.in-Some.ensures.steps) enough in
    absurd (false≢true (c.in_err-push_str.ensures.succeeds fits))

pub returns-in_err-push_str-clause-full : goal.returns-in_err-push_str-clause-full
returns-in_err-push_str-clause-full g c =
    let at = c.loop-s in
    let put = c.in_err-push_str.ensures in
    let told = refused_at (by_texts (λ x. x.now)) c.in-Some.s at.invariant.pushed put.refused (no_room _ _ (λ fits. false≢true (put.succeeds fits))) in
    on_err c.from_residual.result (c.into_iter-rest.result, at.yielded, c.in-Some.s, _, c.into_iter-rest.ensures.into_iter_gives, (at.rest, at.yielded_by, c.in-Some.ensures.steps), told.0, told.1, told.2)

pub loop-s-preserved : goal.loop-s-preserved
loop-s-preserved g c = record {
  can = search rules;
  ends = search rules;
  pushed = pushed_more (by_texts (λ x. x.now)) c.in-Some.s c.loop-s.invariant.pushed c.in_ok-push_str.ensures.ok;
}
