use Rattle.std.proofs.Common.{◌≡◌, ◌∙◌, List, ℕ, [], ◌∷◌, ◌++◌, inl, inr, ap, refl, sym, subst, take, length, rules}
use Rattle.std.specs.Prelude.{codes}
use Rattle.std.proofs.lemmas.List.{take_at}
use Rattle.std.proofs.lemmas.Result.{on_ok_weaker}
use Rattle.example_dns_query.specs.Answer.{hex_of, line_error_text}
use Rattle.example_dns_query.specs.Line.{HasLineFault}
use Rattle.example_dns_query.proofs.LineFaults.{tells_line_fault}
use Rattle.example_dns_query.proofs.answer.EncoderAnswer.answer.Goals as goal

pub returns-in-Ok-clause-answered : goal.returns-in-Ok-clause-answered
returns-in-Ok-clause-answered c =
    let told = c.in-Ok.ensures.answers in
    let message : take c.in-Ok.len c.answer_line.new.slice ≡ told.message = ap (take c.in-Ok.len) told.written ∙ take_at told.message _ c.in-Ok.len (sym told.long) in
    on_ok_weaker c.push_hex.result (λ same. (_, same, inl (told.message, told.asked, ap (λ bytes. hex_of bytes ++ 10 ∷ []) message))) c.push_hex.ensures.ok

pub returns-in-Err-clause-answered : goal.returns-in-Err-clause-answered
returns-in-Err-clause-answered c =
    let line = c.args.line.now in
    let error = c.in-Err.error in
    let told = c.answer_line.ensures in
    let slots : List ℕ = c.args.self.now.slots in
    let room : length slots ≡ 512 = search rules in
    let fault = tells_line_fault line (length slots) c.answer_line.result told.query told.words told.number told.unknown_type error c.in-Err.is in
    on_ok_weaker c.push_error.result (λ same. (codes "error: " ++ (line_error_text error ++ 10 ∷ []), same, inr (error, subst (λ n. HasLineFault line n error) room fault, refl))) c.push_error.ensures.ok
