use Rattle.std.proofs.Common.{◌∙◌, ◌∷◌, ◌+◌, arith, ap, below_more, sym, slice_range, length, le_refl}
use Rattle.std.proofs.lemmas.Slice.{between_to_end}
use Rattle.example_tidy.specs.Tidy.{words}
use Rattle.example_tidy.proofs.WordLemmas.{blank_at, word_at, word_to_end}
use Rattle.example_tidy.proofs.words.next_word.Goals as goal
use Rattle.example_tidy.proofs.words.next_word.Goals.{then-is_ascii_whitespace+else-start-index, else-is_ascii_whitespace}

pub returns-then-start-index-clause-some : goal.returns-then-start-index-clause-some
returns-then-start-index-clause-some c =
    let text = c.args.text.now in
    let start = c.loop-index.start in
    let index = c.loop-index.index in
    let inv = c.loop-index.invariant in
    sym inv.so_far ∙ word_at text start index c.if-start-index.true (omega arith) inv.none_since (sym c.if-is_ascii_whitespace.ensures.value)
    ∙ ap (λ rest. slice_range text start index ∷ words rest) (sym (between_to_end text (index + 1) (length text) (le_refl _)))

-- a turn of the loop: a blank follows a blank, or the byte is no blank
pub loop-index-preserved : goal.loop-index-preserved
loop-index-preserved c =
    let text = c.args.text.now in
    let inv = c.loop-index.invariant in
    elim c.if-is_ascii_whitespace.branch [
      | then-is_ascii_whitespace+else-start-index w ↦ rw w.start-is record {
        so_far = sym (blank_at text c.loop-index.start c.loop-index.index inv.order w.if-start-index.false (omega arith) (sym w.if-is_ascii_whitespace.ensures.value)) ∙ inv.so_far;
        none_since = λ k below behind. absurd (omega arith);
        order = omega arith;
      }
      | else-is_ascii_whitespace w ↦ rw w.start-is record {
        so_far = inv.so_far;
        none_since = below_more _ _ inv.none_since (λ _. sym w.if-is_ascii_whitespace.ensures.value);
        order = omega arith;
      }
    ]

pub returns-then-start-text-clause-some : goal.returns-then-start-text-clause-some
returns-then-start-text-clause-some c =
    let inv = c.loop-index.invariant in
    sym inv.so_far ∙ word_to_end c.args.text.now c.loop-index.start c.if-start-text.true (λ k below behind. inv.none_since k (omega arith) behind)
