use Rattle.std.proofs.Common.{◌≢◌, inl, inr, codes, sym, ◌∙◌, rules, take_all}
use Rattle.std.proofs.lemmas.List.Elements.{All-get_or, All-same}
use Rattle.tinyvec_script.specs.Words.{IsLetter}
use Rattle.tinyvec_script.proofs.SpliceText.{word_is, word_some, some_word}
use Rattle.tinyvec_script.proofs.splice_text.letters.Goals as goal

pub letter-requires : goal.letter-requires
letter-requires c =
    let text = c.args.text.now in
    let word = c.requires in
    let not_dash : text ≢ codes "-" = search rules in
    elim (word_is word.0) [
      | inl dash ↦ absurd (not_dash (word.1 ∙ dash))
      | inr letters ↦ All-get_or IsLetter text c.loop-byte.byte-index 0 c.loop-byte-test.true (All-same IsLetter text _ word.1 letters.0)
    ]

pub returns-clause-ok : goal.returns-clause-ok
returns-clause-ok c =
    let text = c.args.text.now in
    let read = c.loop-byte.invariant.read ∙ take_all c.loop-byte.byte-index text c.loop-byte-test.false in
    some_word text (word_some text c.requires.0 c.requires.1) c.loop-byte.word.items (sym read)
