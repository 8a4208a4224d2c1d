use Rattle.std.proofs.Common.{◌≡◌, ◌≤◌, length, vec_len, vec_capacity}
use Rattle.tinyvec_script.specs.Step.{Run}
use Rattle.tinyvec_script.proofs.runs.run_calls.Given as goal

abbrev pub invariant-loop-call : goal.invariant-loop-call
invariant-loop-call g l = record {
  run : Run g.K.Answers.step l.fn.vec l.yielded l.answers.items l.vec;
  count : vec_len l.answers ≡ length l.yielded;
  room : length l.fn.calls.items ≤ vec_capacity l.answers;
}
