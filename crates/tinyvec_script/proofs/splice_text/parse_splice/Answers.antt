use Rattle.std.proofs.Common.{◌≡◌, ◌++◌, ◌∷◌, false, rules}
use Rattle.std.specs.Fmt.{decimal}
use Rattle.tinyvec_script.specs.Command.{word_text, numbers_text}
use Rattle.tinyvec_script.proofs.Words.{one_split}
use Rattle.tinyvec_script.proofs.Indices.{one_index}
use Rattle.tinyvec_script.proofs.SpliceText.{numbers_blank, word_has_no_blank}
use Rattle.tinyvec_script.proofs.splice_text.parse_splice.Goals as goal

pub returns-in_err-start : goal.returns-in_err-start
returns-in_err-start c = rw c.from_residual.ensures (λ i j word ns hi hj hs e.
    c.in_err-start.ensures i (decimal j ++ 32 ∷ (word_text word ++ numbers_text ns)) hi e)

pub returns-in_err-end : goal.returns-in_err-end
returns-in_err-end c = rw c.from_residual-in_err-end.ensures (λ i j word ns hi hj hs e.
    let tail = word_text word ++ numbers_text ns in
    c.in_err-end.ensures j tail hj (one_index c.args.text.now c.in_ok-start.start i _ (decimal j ++ 32 ∷ tail) (search rules) hi c.in_ok-start.ensures e))

pub returns-then-not-is_word : goal.returns-then-not-is_word
returns-then-not-is_word c = λ i j word ns hi hj hs e.
    let no : c.is_word.result ≡ false = search rules in
    let tail = word_text word ++ numbers_text ns in
    let rest = one_index c.args.text.now c.in_ok-start.start i _ (decimal j ++ 32 ∷ tail) (search rules) hi c.in_ok-start.ensures e in
    let last = one_index _ c.in_ok-end.end j _ tail (search rules) hj c.in_ok-end.ensures rest in
    let parts = c.until_blank.ensures in
    let split = one_split _ _ _ (word_text word) (numbers_text ns) parts.whole parts.word parts.rest last (word_has_no_blank word) (numbers_blank ns) in
    c.is_word.ensures.no no word split.0

pub returns-then-not-parse_numbers : goal.returns-then-not-parse_numbers
returns-then-not-parse_numbers c = λ i j word ns hi hj hs e.
    let no : c.parse_numbers.result ≡ false = search rules in
    let tail = word_text word ++ numbers_text ns in
    let rest = one_index c.args.text.now c.in_ok-start.start i _ (decimal j ++ 32 ∷ tail) (search rules) hi c.in_ok-start.ensures e in
    let last = one_index _ c.in_ok-end.end j _ tail (search rules) hj c.in_ok-end.ensures rest in
    let parts = c.until_blank.ensures in
    let split = one_split _ _ _ (word_text word) (numbers_text ns) parts.whole parts.word parts.rest last (word_has_no_blank word) (numbers_blank ns) in
    c.parse_numbers.ensures.no no ns hs split.1
