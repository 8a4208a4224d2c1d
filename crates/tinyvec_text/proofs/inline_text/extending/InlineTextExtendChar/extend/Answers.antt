use Rattle.std.proofs.Common.{rules}
use Rattle.std.proofs.lemmas.Bool.{false≢true}
use Rattle.tinyvec_slots.proofs.CloneLemmas.{on_err}
use Rattle.tinyvec.proofs.PlaceLemmas.{no_room}
use Rattle.tinyvec_text.proofs.Extending.{by_chars, all_fit, pushed_more, refused_at}
use Rattle.tinyvec_text.proofs.inline_text.extending.InlineTextExtendChar.extend.Goals as goal

pub returns-in_err-push-clause-known : goal.returns-in_err-push-clause-known
returns-in_err-push-clause-known g c = λ all yields enough.
    let at = c.loop-c in
    let fits = all_fit by_chars g.I.IntoIter.Iterator.next_gives c.into_iter-rest.result _ c.in-Some.c all at.invariant.pushed
    (yields _ c.into_iter-rest.ensures.into_iter_gives) (at.rest, at.yielded_by, c.in-Some.ensures.steps) enough in
    absurd (false≢true (c.in_err-push.ensures.grows.succeeds fits))

pub returns-in_err-push-clause-full : goal.returns-in_err-push-clause-full
returns-in_err-push-clause-full g c =
    let at = c.loop-c in
    let put = c.in_err-push.ensures.grows in
    let told = refused_at by_chars c.in-Some.c at.invariant.pushed put.refused (no_room _ _ (λ fits. false≢true (put.succeeds fits))) in
    on_err c.from_residual.result (c.into_iter-rest.result, at.yielded, c.in-Some.c, _, c.into_iter-rest.ensures.into_iter_gives, (at.rest, at.yielded_by, c.in-Some.ensures.steps), told.0, told.1, told.2)

pub loop-c-preserved : goal.loop-c-preserved
loop-c-preserved g c = record {
  can = search rules;
  ends = search rules;
  pushed = pushed_more by_chars c.in-Some.c c.loop-c.invariant.pushed c.in_ok-push.ensures.grows.ok;
}
