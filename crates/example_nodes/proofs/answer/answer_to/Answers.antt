use Rattle.std.proofs.Common.{◌∙◌, ◌++◌, inl, inr, ap, sym}
use Rattle.std.proofs.lemmas.Result.{on_ok_weaker}
use Rattle.example_nodes.specs.Answer.{refused, said}
use Rattle.example_nodes.proofs.answer.answer_to.Goals as goal

pub returns-in-Ok : goal.returns-in-Ok
returns-in-Ok c =
    let is = c.in-Ok.ensures.right in
    inl (is.2 ∙ ap (λ text. text ++ is.0) c.clear.ensures.bytes ∙ sym (ap (said c.args.number) is.1))

pub returns-in-Err-Memory : goal.returns-in-Err-Memory
returns-in-Err-Memory c = on_ok_weaker c.write-in-Err-Memory.result (λ is. inr (is ∙ ap (λ text. text ++ refused c.args.number) c.clear-in-Err-Memory.ensures.bytes)) c.write-in-Err-Memory.ensures.bytes
