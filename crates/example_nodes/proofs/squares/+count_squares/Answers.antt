use Rattle.std.proofs.Common.{rules, arith, length, ap}
use Rattle.std.proofs.lemmas.List.{length-append}
use Rattle.example_nodes.specs.Squares.{squares_in}
use Rattle.example_nodes.specs.Parts.{text_of, part_text}
use Rattle.example_nodes.proofs.Texts.{squares_whole, length_whole, part_of_all, one_more, squares_both}
use Rattle.example_nodes.proofs.squares.+count_squares.Goals as goal

pub count_square-count_squares-requires : goal.count_square-count_squares-requires
count_square-count_squares-requires t c = (
  omega (arith, length_whole c.args.square.now c.in-Parts.parts c.as_slice.result.now c.in-Parts.is (search rules)),
  omega (arith, squares_whole c.args.square.now c.in-Parts.parts c.as_slice.result.now c.in-Parts.is (search rules), c.requires.fits),
)

pub count_square-overflow_add-result : goal.count_square-overflow_add-result
count_square-overflow_add-result t c =
    omega (arith, c.requires.fits, c.count_squares.ensures, squares_whole c.args.square.now c.in-Parts.parts c.as_slice.result.now c.in-Parts.is (search rules))

pub count_square-returns-in-Parts : goal.count_square-returns-in-Parts
count_square-returns-in-Parts t c =
    omega (arith, c.count_squares.ensures, squares_whole c.args.square.now c.in-Parts.parts c.as_slice.result.now c.in-Parts.is (search rules))

pub count_part-count_square-requires : goal.count_part-count_square-requires
count_part-count_square-requires t c = (
  omega (arith, ap (λ p. length (part_text p)) c.in-Some.is, ap (λ s. length (text_of s)) c.deref.ensures),
  omega (arith, ap (λ p. squares_in (part_text p)) c.in-Some.is, ap (λ s. squares_in (text_of s)) c.deref.ensures, c.requires.fits),
)

pub count_part-returns-in-Some : goal.count_part-returns-in-Some
count_part-returns-in-Some t c =
    omega (arith, c.count_square.ensures, ap (λ p. squares_in (part_text p)) c.in-Some.is, ap (λ s. squares_in (text_of s)) c.deref.ensures)

pub count_squares-count_part-counted-requires : goal.count_squares-count_part-counted-requires
count_squares-count_part-counted-requires t c =
    let ps = c.args.parts.now in
    let at = c.loop-part.part-index in
    let p = c.part-item.result in (
      omega (arith, part_of_all length (λ xs ys. length-append xs ys) ps at p c.loop-part-test.true, ap (λ q. length (part_text q)) c.part-item.is),
      omega (arith, part_of_all squares_in squares_both ps at p c.loop-part-test.true, ap (λ q. squares_in (part_text q)) c.part-item.is, c.requires.fits),
    )

pub count_squares-overflow_add-counted : goal.count_squares-overflow_add-counted
count_squares-overflow_add-counted t c =
    omega (
      arith,
      c.loop-part.invariant,
      c.requires.fits,
      c.count_part-counted.ensures,
      one_more c.args.parts.now c.loop-part.part-index c.part-item.result c.loop-part-test.true,
      ap (λ p. squares_in (part_text p)) c.part-item.is,
    )

pub count_squares-loop-part-preserved : goal.count_squares-loop-part-preserved
count_squares-loop-part-preserved t c =
    omega (
      arith,
      c.loop-part.invariant,
      c.count_part-counted.ensures,
      one_more c.args.parts.now c.loop-part.part-index c.part-item.result c.loop-part-test.true,
      ap (λ p. squares_in (part_text p)) c.part-item.is,
    )
