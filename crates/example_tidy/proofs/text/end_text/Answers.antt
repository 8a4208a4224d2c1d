use Rattle.std.proofs.Common.{◌≡◌, ◌<◌, ◌++◌, ◌∷◌, [], length, rules, sym, append-nil}
use Rattle.std.proofs.lemmas.Result.{on_ok_weaker}
use Rattle.example_tidy.specs.Tidy.{normal_line}
use Rattle.example_tidy.proofs.Feeding.{ends_none, ends_last}
use Rattle.example_tidy.proofs.text.end_text.Goals as goal

pub returns-then-is_empty-clause-ok : goal.returns-then-is_empty-clause-ok
returns-then-is_empty-clause-ok c =
    let none : length c.args.line.now ≡ 0 = search rules in
    ([], sym (append-nil _), ends_none c.args.line.now none)

pub returns-clause-ok : goal.returns-clause-ok
returns-clause-ok c =
    let line = c.args.line.now in
    let some : 0 < length line = search rules in
    on_ok_weaker c.end_line.result (λ grown. (normal_line line ++ 10 ∷ [], grown, ends_last line some)) c.end_line.ensures.ok
