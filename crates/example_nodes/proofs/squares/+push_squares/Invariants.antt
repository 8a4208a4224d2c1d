use Rattle.std.proofs.Common.{◌≡◌, ◌+◌, ◌*◌, ◌++◌, drop, length, string_bytes}
use Rattle.example_nodes.specs.Parts.{text_of, parts_text}
use Rattle.example_nodes.proofs.squares.+push_squares.Given as goal

abbrev pub decreases-push_square : goal.decreases-push_square
decreases-push_square l = 2 * length (text_of l.square.now)

abbrev pub decreases-push_squares : goal.decreases-push_squares
decreases-push_squares l = 2 * length (parts_text l.parts.now) + 1

-- the text, and what is left
abbrev pub invariant-push_squares-loop-part : goal.invariant-push_squares-loop-part
invariant-push_squares-loop-part l = string_bytes l.text ++ parts_text (drop l.part-index l.parts) ≡ string_bytes l.initial.text ++ parts_text l.parts
