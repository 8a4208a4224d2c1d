use Rattle.std.proofs.Common.{◌≢◌, ◌<◌, inl, inr, length, get_or, codes, sym, ◌∙◌, rules, take_all}
use Rattle.std.proofs.lemmas.List.Elements.{All-get_or, All-same}
use Rattle.tinyvec_script.specs.Words.{IsLetter}
use Rattle.tinyvec_script.proofs.SpliceText.{word_is, is_word_from}
use Rattle.tinyvec_script.proofs.splice_text.is_word.Goals as goal

pub returns-then-byte-ne98-clause-no : goal.returns-then-byte-ne98-clause-no
returns-then-byte-ne98-clause-no c = λ _ word e.
    let text = c.args.text.now in
    let i = c.loop-byte.byte-index in
    let not_dash : text ≢ codes "-" = search rules in
    let within : i < length text = c.loop-byte-test.true in
    let not_f : get_or text i 0 ≢ 102 = search rules in
    let not_b : get_or text i 0 ≢ 98 = search rules in
    elim (word_is word) [
      | inl dash ↦ not_dash (e ∙ dash)
      | inr letters ↦ elim (All-get_or IsLetter text i 0 within (All-same IsLetter text _ e letters.0)) [
        | inl f ↦ not_f f
        | inr b ↦ not_b b
      ]
    ]

pub returns-clause-yes : goal.returns-clause-yes
returns-clause-yes c = λ _.
    let text = c.args.text.now in
    let some : 0 < length text = search rules in
    is_word_from text some (All-same IsLetter text _ (sym (take_all c.loop-byte.byte-index text c.loop-byte-test.false)) c.loop-byte.invariant)
