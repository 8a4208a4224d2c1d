-- The lines of a text that is given line by line.
use Rattle.std.proofs.Common.{◌≡◌, ℕ, List, [], ◌∷◌, ◌++◌, length, refl, sym, ap, subst, ◌∙◌, arith, append_assoc, append-nil, length-append}
use Rattle.std.specs.List.{AllByRecursion}
use Rattle.std.proofs.lemmas.List.Elements.{recursion_from_All, All-head, All-tail}
use Rattle.tinyvec_io.specs.Lines.{IsLine, ended, last_line, Splits}
use Rattle.tinyvec_script.specs.Script.{State, start, Answers, Script}
use Rattle.tinyvec_script.proofs.Words.{Lacks, no_mark_in, cut_once}

-- it has no line feed
abbrev pub IsWhole : List ℕ → Type 0
IsWhole = Lacks 10

-- where the first of the lines ends
ended_first : (line : List ℕ) (lines : List (List ℕ)) (rest : List ℕ) → ended (line ∷ lines) ++ rest ≡ line ++ 10 ∷ (ended lines ++ rest)
ended_first line lines rest = append_assoc (line ++ 10 ∷ []) (ended lines) rest ∙ append_assoc line (10 ∷ []) (ended lines ++ rest)

-- lines that are ended are split in one way
ended_splits : (lines all : List (List ℕ)) (rest : List ℕ) → AllByRecursion IsWhole lines → Splits (ended lines) all rest → (all ≡ lines) × (rest ≡ [])
ended_splits [] [] rest whole s = (refl, sym s.whole)
ended_splits [] (first ∷ more) rest whole s =
    let long = ap length (s.whole ∙ ended_first first more rest) ∙ length-append first (10 ∷ (ended more ++ rest)) in
    absurd (omega (arith, long))
ended_splits (line ∷ lines) [] rest whole s =
    absurd (no_mark_in 10 line (ended lines ++ []) (recursion_from_All _ _ (rw (sym s.whole ∙ sym (append-nil (ended (line ∷ lines))) ∙ ended_first line lines []) at s.partial)))
ended_splits (line ∷ lines) (first ∷ more) rest whole s =
    let e = sym (ended_first line lines []) ∙ append-nil (ended (line ∷ lines)) ∙ s.whole ∙ ended_first first more rest in
    let parts = cut_once 10 line (ended lines ++ []) first (ended more ++ rest) whole.0 (recursion_from_All _ _ (All-head IsLine first more s.each)) e in
    let left = ended_splits lines more rest whole.1
    (record { whole = sym (append-nil (ended lines)) ∙ parts.1; each = All-tail IsLine first more s.each; partial = s.partial }) in
    (let head = parts.0 in let tail = left.0 in cc, left.1)

-- the output to lines that are ended answers these lines
pub answers_of : (lines : List (List ℕ)) (output : List ℕ) → AllByRecursion IsWhole lines → Script (ended lines) output
    → (state : State) × Answers start lines output state
answers_of lines output whole s =
    let is = ended_splits lines s.lines s.rest whole s.split in
    let all : s.lines ++ last_line s.rest ≡ lines = ap (λ rest. s.lines ++ last_line rest) is.1 ∙ append-nil s.lines ∙ is.0 in
    (s.state, subst (λ ls. Answers start ls output s.state) all s.answers)
