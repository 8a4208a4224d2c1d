use Rattle.std.proofs.Common.{rules, ◌≡◌, ◌∙◌, ◌∷◌, ◌++◌, [], ap}
use Rattle.std.proofs.lemmas.Result.{IfOk-weaker}
use Rattle.example_nodes.specs.Parts.{vec_text}
use Rattle.example_nodes.proofs.Texts.{text_whole}
use Rattle.example_nodes.proofs.squares.whole.Goals as goal

pub returns : goal.returns
returns c =
    let boxed = c.in_ok-new.field-0 in
    let value : boxed.value ≡ c.args.parts = search rules in
    IfOk-weaker c.part_of.result _ _ (λ part is. is ∙ text_whole boxed ∙ ap (λ v. 91 ∷ (vec_text v ++ 93 ∷ [])) value) c.part_of.ensures
