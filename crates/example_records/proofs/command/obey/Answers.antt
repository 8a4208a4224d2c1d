use Rattle.std.proofs.Common.{◌≡◌, [], IfErr, codes, rules, subst₂, sym}
use Rattle.example_records.specs.Commands.{Tells, rest_of, word_of}
use Rattle.example_records.specs.Commands.Command.{Add, Hex, Cut}
use Rattle.example_records.proofs.command.obey.Goals as goal

pub returns-in-add-clause-unknown : goal.returns-in-add-clause-unknown
returns-in-add-clause-unknown c =
    let word : word_of c.args.text.now ≡ codes "add" = search rules in
    λ none. absurd (none (Add (0, ([], [])), word))

pub returns-in-hex-clause-unknown : goal.returns-in-hex-clause-unknown
returns-in-hex-clause-unknown c =
    let word : word_of c.args.text.now ≡ codes "hex" = search rules in
    λ none. absurd (none (Hex [], word))

pub returns-in-cut-clause-unknown : goal.returns-in-cut-clause-unknown
returns-in-cut-clause-unknown c =
    let word : word_of c.args.text.now ≡ codes "cut" = search rules in
    λ none. absurd (none (Cut 0, word))

pub returns-in-add-clause-tells : goal.returns-in-add-clause-tells
returns-in-add-clause-tells c =
    let word : word_of c.args.text.now ≡ codes "add" = search rules in
    let rest : c.first_word.result.1.now ≡ rest_of c.args.text.now = search rules in
    subst₂ (λ first behind. IfErr c.add.result (Tells first behind)) (sym word) rest c.add.ensures.tells
