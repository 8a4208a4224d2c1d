use Rattle.std.proofs.Common.{◌≡◌, ◌∙◌, ◌++◌, ◌∷◌, [], None, Some, Ok, Err, ap, codes, length, refl, rules}
use Rattle.std.proofs.lemmas.Result.{on_ok_weaker}
use Rattle.example_records.specs.Errors.{command_error_text}
use Rattle.example_records.specs.Shown.{len_text}
use Rattle.example_records.proofs.Showing.{answered}
use Rattle.example_records.proofs.answer.RecordsAnswer.answer.Goals as goal

pub returns-in-Ok-None-clause-answered : goal.returns-in-Ok-None-clause-answered
returns-in-Ok-None-clause-answered c =
    let run = c.run.ensures in
    let is : c.run.result ≡ Ok None = search rules in
    let len : c.len.result ≡ length c.run.new.stream.items = search rules in
    let said = len_text c.len.result ++ 10 ∷ [] in (
      said,
      c.push_len.ensures ∙ ap (λ text. text ++ said) c.reserve.ensures.items,
      answered c.args.line.now c.args.self.now.stream.items c.run.new.stream.items _ c.run.result (Ok None) run.answers run.text run.unknown run.tells is (ap (λ n. len_text n ++ 10 ∷ []) len),
    )

pub returns-in-Ok-Some-clause-answered : goal.returns-in-Ok-Some-clause-answered
returns-in-Ok-Some-clause-answered c =
    let run = c.run.ensures in
    let recovered = c.in-Ok-Some.recovered in
    let is : c.run.result ≡ Ok (Some recovered) = search rules in
    on_ok_weaker c.push_recovered.result
    (λ shown. (
      shown.0 ++ 10 ∷ [],
      shown.2 ∙ ap (λ text. text ++ (shown.0 ++ 10 ∷ [])) c.reserve.ensures.items,
      answered c.args.line.now c.args.self.now.stream.items c.run.new.stream.items _ c.run.result (Ok (Some recovered)) run.answers run.text run.unknown run.tells is (shown.0, shown.1, refl),
    ))
    c.push_recovered.ensures.ok

pub returns-in-Err-clause-answered : goal.returns-in-Err-clause-answered
returns-in-Err-clause-answered c =
    let run = c.run.ensures in
    let said = codes "refused: " ++ (command_error_text c.in-Err.error ++ 10 ∷ []) in
    on_ok_weaker c.push_refusal.result
    (λ grown. (
      said,
      grown ∙ ap (λ text. text ++ said) c.reserve.ensures.items,
      answered c.args.line.now c.args.self.now.stream.items c.run.new.stream.items _ c.run.result (Err c.in-Err.error) run.answers run.text run.unknown run.tells c.in-Err.is refl,
    ))
    c.push_refusal.ensures.ok
