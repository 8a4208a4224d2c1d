use Rattle.std.proofs.Common.{◌≡◌, ◌+◌, ◌*◌, drop, length}
use Rattle.example_nodes.specs.Squares.{squares_in}
use Rattle.example_nodes.specs.Parts.{text_of, part_text, parts_text}
use Rattle.example_nodes.proofs.squares.+count_squares.Given as goal

abbrev pub decreases-count_square : goal.decreases-count_square
decreases-count_square l = 3 * length (text_of l.square.now)

abbrev pub decreases-count_part : goal.decreases-count_part
decreases-count_part l = 3 * length (part_text l.part.now) + 1

abbrev pub decreases-count_squares : goal.decreases-count_squares
decreases-count_squares l = 3 * length (parts_text l.parts.now) + 2

abbrev pub invariant-count_squares-loop-part : goal.invariant-count_squares-loop-part
invariant-count_squares-loop-part l = l.counted + squares_in (parts_text (drop l.part-index l.parts)) ≡ squares_in (parts_text l.parts)
