use Rattle.std.proofs.Common.{◌≡◌, ◌++◌, ◌∷◌, [], true}
use Rattle.tinyvec_script.proofs.Written.{gathers_nothing}
use Rattle.tinyvec_script.proofs.HistoryLemmas.{ends_empty, ends_line}
use Rattle.tinyvec_script.proofs.script.answer_last.Goals as goal

pub returns-then-is_empty : goal.returns-then-is_empty
returns-then-is_empty g c = ([], gathers_nothing, ends_empty (c.is_empty.ensures.0 c.if-is_empty.true))

pub returns : goal.returns
returns g c =
    let answered = c.answer_line.ensures in
    (answered.0 ++ 10 ∷ [], answered.1, ends_line (λ e. let full : c.is_empty.result ≡ true = c.is_empty.ensures.1 e in cc) answered.2)
