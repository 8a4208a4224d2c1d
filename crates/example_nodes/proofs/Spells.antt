-- A line of squares that is right is their text.
use Rattle.std.proofs.Common.{◌≡◌, ◌∙◌, ℕ, suc, ◌==◌, List, [], ◌∷◌, ◌++◌, Bool, true, false, if◌then◌else◌, refl, sym, ap, append_assoc}
use Rattle.std.proofs.lemmas.Bool.{eqb-true}
use Rattle.std.proofs.lemmas.List.{append-nil}
use Rattle.example_nodes.specs.Machine.{right, outcome_on}
use Rattle.example_nodes.specs.Squares.{Reading, unread, placed, unfolded, folded, square_next, square_fault, squares_line, squares_outcome}
use Rattle.example_nodes.proofs.Steps.{passes, reads}

next_text : (r : Reading) (byte : ℕ) (opens closes : Bool) → (byte == 91) ≡ opens → (byte == 93) ≡ closes
    → (if opens then unfolded r else (if closes then folded r else placed r (byte ∷ []))).text ≡ r.text ++ byte ∷ []
next_text r byte true closes is_open is_close = ap (λ b. r.text ++ b ∷ []) (sym (eqb-true byte 91 is_open))
next_text r byte false true is_open is_close = ap (λ b. r.text ++ b ∷ []) (sym (eqb-true byte 93 is_close))
next_text r byte false false is_open is_close = refl

spelled : (r : Reading) (column : ℕ) (bytes text : List ℕ) → outcome_on squares_line r column bytes ≡ right text → text ≡ r.text ++ bytes
spelled r column [] text is = sym (reads r.text text (passes column (squares_line.end_fault r) (right r.text) text is)) ∙ sym (append-nil r.text)
spelled r column (byte ∷ bytes) text is =
    let rest = outcome_on squares_line (square_next r byte) (suc column) bytes in
    spelled (square_next r byte) (suc column) bytes text (passes column (square_fault r byte) rest text is)
    ∙ ap (λ t. t ++ bytes) (next_text r byte (byte == 91) (byte == 93) refl refl)
    ∙ append_assoc r.text (byte ∷ []) bytes

pub spells : (line text : List ℕ) → squares_outcome line ≡ right text → text ≡ line
spells line text is = spelled unread 1 line text is
