use Rattle.tinyvec_text.proofs.Extending.{Pushed, by_texts}
use Rattle.tinyvec_text.proofs.inline_text.extending.InlineTextExtendRefStr.extend.Given as goal

abbrev pub invariant-loop-s : goal.invariant-loop-s
invariant-loop-s g l = record {
  can : (goal.iterator-loop-s g).can_next l.rest;
  ends : (goal.iterator-loop-s g).is_finite l.rest;
  pushed : Pushed (by_texts (λ x. x.now)) l.initial.self l.self l.yielded;
}
