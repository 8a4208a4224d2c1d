-- Records that are shown one after another, and the text of an answer.
use Rattle.std.proofs.Common.{◌≡◌, ◌∙◌, List, ℕ, [], ◌∷◌, ◌++◌, length, Err, IfErr, ap, refl, subst, sym, append_assoc, append-nil}
use Rattle.std.specs.Str.{IsUtf8}
use Rattle.example_records.specs.Commands.{Answer, Answers, Commands, IsCommand, Tells, rest_of, word_of}
use Rattle.example_stream.specs.Readings.{Said}
use Rattle.example_records.specs.Shown.{AreLinesOf, IsAnswered, IsLineOf, IsTextOf}
use Rattle.example_records.specs.declared.command_error.CommandError.TheVariants.{Text, Unknown}

-- a record more is shown
pub AreLinesOf-push : (cs : List Said) (c : Said) (lines line : List ℕ) → AreLinesOf cs lines → IsLineOf c line → AreLinesOf (cs ++ c ∷ []) (lines ++ line)
AreLinesOf-push [] c lines line none is = (line, [], is, refl, ap (λ front. front ++ line) none ∙ sym (append-nil line))
AreLinesOf-push (d ∷ cs) c lines line are is =
    (are.0, are.1 ++ line, are.2, AreLinesOf-push cs c are.1 line are.3 is, ap (λ front. front ++ line) are.4 ∙ append_assoc are.0 are.1 line)

-- the text grew by a line for each record
abbrev pub GrewBy : List Said → (old new : List ℕ) → Type 0
GrewBy cs old new = (lines : List ℕ) × AreLinesOf cs lines × (new ≡ old ++ lines)

pub GrewBy-push : (cs : List Said) (c : Said) (old mid new line : List ℕ) → GrewBy cs old mid → IsLineOf c line → new ≡ mid ++ line → GrewBy (cs ++ c ∷ []) old new
GrewBy-push cs c old mid new line so_far is grown =
    (so_far.0 ++ line, AreLinesOf-push cs c so_far.0 line so_far.1 is, grown ∙ ap (λ text. text ++ line) so_far.2 ∙ append_assoc old so_far.0 line)

-- what `run` answered, and the text of it
pub answered : (line old new text : List ℕ) (answer said : Answer) → Answers (Commands line) old new answer → ((IsUtf8 line → ⊥) → answer ≡ Err Text)
    → (IsUtf8 line → (IsCommand (word_of line) → ⊥) → answer ≡ Err Unknown) → (IsUtf8 line → IfErr answer (Tells (word_of line) (rest_of line)))
    → answer ≡ said → IsTextOf said (length new) text → IsAnswered line old new text
answered line old new text answer said answers no_text unknown tells is says = record {
  answer = answer;
  answers = answers;
  no_text = no_text;
  unknown = unknown;
  tells = tells;
  says = subst (λ a. IsTextOf a (length new) text) (sym is) says;
}
