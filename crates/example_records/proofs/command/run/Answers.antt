use Rattle.std.proofs.Common.{◌≡◌, IfErr, IsUtf8, rules, subst, sym}
use Rattle.std.proofs.lemmas.Result.{on_ok_weaker}
use Rattle.example_records.specs.Commands.{Says, Tells, rest_of, word_of}
use Rattle.example_records.proofs.command.run.Goals as goal

pub returns-in-Ok-clause-answers : goal.returns-in-Ok-clause-answers
returns-in-Ok-clause-answers c =
    let same : c.in-Ok.text.now ≡ c.args.line.now = search rules in
    let text : IsUtf8 c.args.line.now = search rules in
    let answers = c.obey.ensures.answers in
    record {
      carried_out = λ command asks. answers.carried_out command (subst (λ text. Says (word_of text) (rest_of text) command) (sym same) asks.1);
      is_command = on_ok_weaker c.obey.result (λ said. (said.0, (text, subst (λ text. Says (word_of text) (rest_of text) (said.0)) same said.1))) answers.is_command;
      refused = answers.refused;
    }

pub returns-in-Ok-clause-tells : goal.returns-in-Ok-clause-tells
returns-in-Ok-clause-tells c =
    let same : c.in-Ok.text.now ≡ c.args.line.now = search rules in
    λ _. subst (λ text. IfErr c.obey.result (Tells (word_of text) (rest_of text))) same c.obey.ensures.tells
