use Rattle.std.proofs.Common.{◌+◌, ◌∙◌, sym, ap, arith, rules}
use Rattle.std.proofs.lemmas.List.{length_push}
use Rattle.tinyvec_script.proofs.RunLemmas.{Run-more, call_left, none_left}
use Rattle.tinyvec_script.proofs.runs.run_calls.Goals as goal

pub loop-call-preserved : goal.loop-call-preserved
loop-call-preserved g c = record {
  run = rw c.push_reserved.ensures.items (Run-more g.K.Answers.step c.args.vec.now c.loop-call.vec c.answer-answered.new.vec
      c.loop-call.yielded c.loop-call.answers.items c.in-Some.call c.answer-answered.result c.loop-call.invariant.run c.answer-answered.ensures);
  count = c.push_reserved.ensures.len ∙ ap (λ n. n + 1) c.loop-call.invariant.count ∙ sym (length_push c.loop-call.yielded c.in-Some.call);
  room = rw c.push_reserved.ensures.capacity c.loop-call.invariant.room;
}

pub push_reserved-requires : goal.push_reserved-requires
push_reserved-requires g c =
    let so_far = c.loop-call in
    let left = call_left c.into_iter-call-iterator.result c.args.calls.items (search rules) (search rules)
    so_far.yielded so_far.call-iterator so_far.yielded_by
    c.next.result c.next.new.self c.in-Some.call c.in-Some.is c.next.ensures.steps in
    omega (arith, left, so_far.invariant.count, so_far.invariant.room)

pub returns-clause-run : goal.returns-clause-run
returns-clause-run g c =
    let so_far = c.loop-call in
    let made = none_left c.into_iter-call-iterator.result c.args.calls.items (search rules) (search rules)
    so_far.yielded so_far.call-iterator so_far.yielded_by
    c.next.result c.next.new.self c.in-None.is c.next.ensures.steps in
    rw made at so_far.invariant.run
