use Rattle.std.proofs.Common.{◌≡◌, ◌∙◌, ◌∷◌, ◌++◌, [], ap, sym, subst}
use Rattle.example_nodes.specs.Faults.{Answers}
use Rattle.example_nodes.specs.Squares.{placed, folded, place_fault}
use Rattle.example_nodes.specs.Parts.{vec_text, reading_of}
use Rattle.example_nodes.specs.declared.squares.SquareParser.{SquareParser}
use Rattle.example_nodes.proofs.Filled.{closes_as_placed, square_closes}
use Rattle.example_nodes.proofs.squares.SquareParser.close.Goals as goal

pub returns : goal.returns
returns c =
    let now = c.args.self.now in
    let before : SquareParser = record { outer = c.pop.new.self; parts = c.replace-parts.new.dest } in
    let is : now.outer.items ≡ before.outer.items ++ before.parts ∷ [] =
    c.in-Some.ensures.items ∙ ap (λ v. c.pop.new.self.items ++ v ∷ []) (sym c.replace-parts.ensures.after) in
    let part = c.in_ok-whole.ensures ∙ ap (λ v. 91 ∷ (vec_text v ++ 93 ∷ [])) c.replace-parts.ensures.value in
    let last = c.place.new.self in
    subst (λ found. Answers c.place.result c.args.column found (reading_of last) (folded (reading_of now))) (sym (closes_as_placed now before is))
    (subst (λ next. Answers c.place.result c.args.column (place_fault (reading_of before)) (reading_of last) next)
    (ap (placed (reading_of before)) part ∙ square_closes now before is) c.place.ensures)
