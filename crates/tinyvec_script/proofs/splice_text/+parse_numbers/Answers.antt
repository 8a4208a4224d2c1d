use Rattle.std.proofs.Common.{◌≡◌, ◌<◌, ◌++◌, ◌∷◌, None, Some, FitsSigned, length, ap, ◌∙◌, arith, rules, length-append, codes}
use Rattle.std.specs.Int.{w32}
use Rattle.std.specs.Fmt.{signed_decimal}
use Rattle.std.proofs.lemmas.List.{length_push}
use Rattle.std.proofs.lemmas.Slice.Eq.{strip_prefix_is}
use Rattle.std.proofs.lemmas.Bool.Decides.{Decides-eqb}
use Rattle.tinyvec_array.specs.ArrayVec.{items}
use Rattle.tinyvec_script.proofs.SpliceText.{numbers_begin, numbers_parted, number_some}
use Rattle.tinyvec_script.proofs.splice_text.+parse_numbers.Goals as goal

pub returns-in_default-clause-no : goal.returns-in_default-clause-no
returns-in_default-clause-no t c = λ _ ns fits e.
    let text = c.args.text.now in
    let some : 0 < length text = search rules in
    let begins = numbers_begin text some ns e in
    strip_prefix_is Decides-eqb text (codes " ") None c.in_default.ensures.cases begins.0 begins.1

pub returns-in_default-parse_number-clause-no : goal.returns-in_default-parse_number-clause-no
returns-in_default-parse_number-clause-no t c = λ _ ns fits e.
    let text = c.args.text.now in
    let parts = c.until_blank.ensures in
    let begins = strip_prefix_is Decides-eqb text (codes " ") (Some c.in-Some.rest) c.in-Some.ensures.cases in
    let is : text ≡ 32 ∷ (c.until_blank.result.0.now ++ c.until_blank.result.1.now) = begins ∙ ap (λ l. 32 ∷ l) parts.whole in
    let first = numbers_parted text c.until_blank.result.0.now c.until_blank.result.1.now parts.word parts.rest is ns fits e in
    c.in_default-parse_number.ensures first.0 first.2 first.4

pub parse_numbers-requires : goal.parse_numbers-requires
parse_numbers-requires t c =
    let text = c.args.text.now in
    let begins = strip_prefix_is Decides-eqb text (codes " ") (Some c.in-Some.rest) c.in-Some.ensures.cases in
    let long = ap length begins in
    let parts = ap length c.until_blank.ensures.whole ∙ length-append c.until_blank.result.0.now c.until_blank.result.1.now in
    let number = c.in-Some-parse_number.number in
    let fits : FitsSigned w32 number = search rules in
    let some : 0 < length (signed_decimal number) = number_some number fits in
    let count = ap length c.in-Some-parse_number.ensures in
    let more = ap length c.push.ensures.items ∙ length_push (items c.args.numbers.now) _ in
    (omega (arith, long, parts), omega (arith, long, parts, some, count, more, c.requires))

pub returns-clause-no : goal.returns-clause-no
returns-clause-no t c = λ no ns fits e.
    let text = c.args.text.now in
    let parts = c.until_blank.ensures in
    let begins = strip_prefix_is Decides-eqb text (codes " ") (Some c.in-Some.rest) c.in-Some.ensures.cases in
    let is : text ≡ 32 ∷ (c.until_blank.result.0.now ++ c.until_blank.result.1.now) = begins ∙ ap (λ l. 32 ∷ l) parts.whole in
    let first = numbers_parted text c.until_blank.result.0.now c.until_blank.result.1.now parts.word parts.rest is ns fits e in
    c.parse_numbers.ensures.no no first.1 first.3 first.5
