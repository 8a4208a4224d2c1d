-- The README's three lines.
use Rattle.std.proofs.Common.{◌≡◌, ℕ, List, [], ◌∷◌, ◌++◌, ℤ, pos, codes, refl, ap, ◌∙◌, arith, rules}
use Rattle.std.specs.Fmt.{signed_decimal}
use Rattle.std.specs.List.{AllByRecursion}
use Rattle.std.proofs.lemmas.Fmt.{decimal_digit}
use Rattle.tinyvec_io.specs.Lines.{ended}
use Rattle.tinyvec_script.specs.Script.{start, Script}
use Rattle.tinyvec_script.specs.Text.{state_text, list_text}
use Rattle.example_script.specs.Scripts.{three, three_answers}
use Rattle.example_script.proofs.Cut.{IsWhole, answers_of}
use Rattle.example_script.proofs.Calls.{push_items, push_spare, push_text, pop_text}

whole : AllByRecursion IsWhole three
whole = search (rules, arith)

zero_is : signed_decimal (pos 0) ≡ codes "0"
zero_is = decimal_digit 0 (omega arith)

one_is : signed_decimal (pos 1) ≡ codes "1"
one_is = decimal_digit 1 (omega arith)

two_is : signed_decimal (pos 2) ≡ codes "2"
two_is = decimal_digit 2 (omega arith)

shown_one : codes "ok " ++ state_text (pos 1 ∷ []) (pos 0 ∷ pos 0 ∷ pos 0 ∷ []) ≡ codes "ok [1] [0, 0, 0]"
unfolding state_text list_text
shown_one = rw (zero_is, one_is) refl

shown_two : codes "ok " ++ state_text (pos 1 ∷ pos 2 ∷ []) (pos 0 ∷ pos 0 ∷ []) ≡ codes "ok [1, 2] [0, 0]"
unfolding state_text list_text
shown_two = rw (zero_is, one_is, two_is) refl

shown_three : codes "some " ++ signed_decimal (pos 2) ++ codes " " ++ state_text (pos 1 ∷ []) (pos 0 ∷ pos 0 ∷ pos 0 ∷ []) ≡ codes "some 2 [1] [0, 0, 0]"
unfolding state_text list_text
shown_three = rw (zero_is, one_is, two_is) refl

pub three_lines : (output : List ℕ) → Script (ended three) output → output ≡ ended three_answers
three_lines output script =
    let first = (answers_of three output whole script).1 in
    let second = first.5 in
    let third = second.5 in
    let zeros : List ℤ = pos 0 ∷ pos 0 ∷ [] in
    let one = push_text start first.1 (pos 1) (search rules) (codes "1") one_is (omega arith) first.0 [] (pos 0 ∷ pos 0 ∷ zeros) refl refl (omega arith) first.3 in
    let held = push_items start first.1 (pos 1) (search rules) (codes "1") one_is (omega arith) first.0 [] (pos 0 ∷ pos 0 ∷ zeros) refl refl (omega arith) first.3 in
    let behind = push_spare start first.1 (pos 1) (search rules) (codes "1") one_is (omega arith) first.0 [] (pos 0 ∷ pos 0 ∷ zeros) refl refl (omega arith) first.3 in
    let two = push_text first.1 second.1 (pos 2) (search rules) (codes "2") two_is (omega arith) second.0 (pos 1 ∷ []) (pos 0 ∷ zeros) held behind (omega arith) second.3 in
    let held_two = push_items first.1 second.1 (pos 2) (search rules) (codes "2") two_is (omega arith) second.0 (pos 1 ∷ []) (pos 0 ∷ zeros) held behind (omega arith) second.3 in
    let behind_two = push_spare first.1 second.1 (pos 2) (search rules) (codes "2") two_is (omega arith) second.0 (pos 1 ∷ []) (pos 0 ∷ zeros) held behind (omega arith) second.3 in
    let popped = pop_text second.1 third.1 third.0 (pos 1 ∷ []) zeros (pos 2) held_two behind_two third.3 in
    first.4 ∙ ap (λ text. text ++ 10 ∷ first.2) (one ∙ shown_one) ∙ ap (λ rest. codes "ok [1] [0, 0, 0]" ++ 10 ∷ rest)
    (second.4 ∙ ap (λ text. text ++ 10 ∷ second.2) (two ∙ shown_two) ∙ ap (λ rest. codes "ok [1, 2] [0, 0]" ++ 10 ∷ rest)
    (third.4 ∙ ap (λ text. text ++ 10 ∷ third.2) (popped ∙ shown_three) ∙ ap (λ rest. codes "some 2 [1] [0, 0, 0]" ++ 10 ∷ rest) third.5.0))
