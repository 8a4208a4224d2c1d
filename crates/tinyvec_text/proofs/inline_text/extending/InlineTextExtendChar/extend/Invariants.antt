use Rattle.tinyvec_text.proofs.Extending.{Pushed, by_chars}
use Rattle.tinyvec_text.proofs.inline_text.extending.InlineTextExtendChar.extend.Given as goal

abbrev pub invariant-loop-c : goal.invariant-loop-c
invariant-loop-c g l = record {
  can : (goal.iterator-loop-c g).can_next l.rest;
  ends : (goal.iterator-loop-c g).is_finite l.rest;
  pushed : Pushed by_chars l.initial.self l.self l.yielded;
}
