-- A line that is no command, and one that appends to the text.
use Rattle.std.proofs.Common.{◌≡◌, ℕ, List, ◌∷◌, ◌++◌, drop, true, ℤ, codes, IsUtf8, refl, sym, ap, subst, ◌∙◌, arith, rules}
use Rattle.std.specs.List.{AllByRecursion}
use Rattle.std.proofs.lemmas.Str.{IsUtf8-from_ascii}
use Rattle.tinyvec_text.specs.InlineText.{Text}
use Rattle.tinyvec_io.specs.Lines.{ended}
use Rattle.tinyvec_script.specs.Command.{name_text}
use Rattle.tinyvec_script.specs.Script.{State, start, Answered, Script}
use Rattle.tinyvec_script.specs.Text.{answer_text, text_state_text}
use Rattle.tinyvec_script.specs.TextCalls.{TextCall, add, cut, IsTextCommand, TextStep}
use Rattle.tinyvec_script.specs.declared.call.Answer.{Answer}
use Rattle.tinyvec_script.specs.declared.call.Answer.TheVariants as answers
use Rattle.tinyvec_script.specs.declared.command.Name.{Name}
use Rattle.tinyvec_script.specs.declared.command.Name.TheVariants.{A, S, T}
use Rattle.example_script.specs.Scripts.{bad_and_text, bad_and_text_answers}
use Rattle.example_script.proofs.Cut.{IsWhole, answers_of}
use Rattle.example_script.proofs.Calls.{differ}

whole : AllByRecursion IsWhole bad_and_text
whole = search (rules, arith)

no_name : (name : Name) (rest : List ℕ) → codes "B pop" ≡ name_text name ++ rest → ⊥
no_name A rest e = differ 0 _ _ e refl
no_name S rest e = differ 0 _ _ e refl
no_name T rest e = differ 0 _ _ e refl

bad_line : (old new : State) (text : List ℕ) → Answered old (codes "B pop") text new
    → (text ≡ codes "bad") × (new ≡ old)
bad_line old new text h = elim h [
  | Answered.done name call answer command steps e ↦ absurd (no_name name command.text command.named)
  | Answered.memory name asks e same ↦ absurd (no_name name asks.text asks.named)
  | Answered.text_done said answer command steps e ↦ differ 0 _ _ command.spelled refl
  | Answered.bad none no_text e same ↦ (e, same)
]

text_no_name : (name : Name) (rest : List ℕ) → codes "X add hi" ≡ name_text name ++ rest → ⊥
text_no_name A rest e = differ 0 _ _ e refl
text_no_name S rest e = differ 0 _ _ e refl
text_no_name T rest e = differ 0 _ _ e refl

says : (said : TextCall) → IsTextCommand (codes "X add hi") said → said ≡ add (codes "hi")
says (add text) is = ap add (sym (ap (drop 6) is.spelled))
says (cut index) is = differ 2 _ _ is.spelled refl

added : (new : Text) (answer : Answer ℤ) → TextStep start.x (add (codes "hi")) answer new
    → (answer ≡ answers.Done) × (new.bytes ≡ codes "hi") × (new.place.inline ≡ true)
added new answers.Done step = (refl, step.bytes, ap (λ p. p.inline) step.place)
added new answers.Memory step = absurd (let small = step.0 in omega arith)
added new answer step = absurd step

shown : codes "ok" ++ codes " " ++ text_state_text (codes "hi") true ≡ codes "ok [hi] inline"
unfolding text_state_text
shown = refl

text_line : (new : State) (text : List ℕ) → Answered start (codes "X add hi") text new → text ≡ codes "ok [hi] inline"
text_line new text h = elim h [
  | Answered.done name call answer command steps e ↦ absurd (text_no_name name command.text command.named)
  | Answered.memory name asks e same ↦ absurd (text_no_name name asks.text asks.named)
  | Answered.text_done said answer command steps e ↦
      (let step = subst (λ call. TextStep start.x call answer new.x) (says said command) steps.0 in
      let made = added new.x answer step in
      e ∙ ap (λ a. answer_text a ++ codes " " ++ text_state_text new.x.bytes new.x.place.inline) made.0
      ∙ ap (λ bytes. codes "ok" ++ codes " " ++ text_state_text bytes new.x.place.inline) made.1
      ∙ ap (λ inline. codes "ok" ++ codes " " ++ text_state_text (codes "hi") inline) made.2
      ∙ shown)
  | Answered.bad none no_text e same ↦
      (let is_text : IsUtf8 (codes "hi") = IsUtf8-from_ascii (codes "hi") (search (rules, arith)) in
      absurd (no_text (add (codes "hi")) (record { spelled = refl; valid = (omega arith, is_text); short = omega arith })))
]

pub bad_then_text : (output : List ℕ) → Script (ended bad_and_text) output → output ≡ ended bad_and_text_answers
bad_then_text output script =
    let first = (answers_of bad_and_text output whole script).1 in
    let second = first.5 in
    let one = bad_line start first.1 first.0 first.3 in
    let two = text_line second.1 second.0 (subst (λ old. Answered old (codes "X add hi") second.0 second.1) one.1 second.3) in
    first.4 ∙ ap (λ text. text ++ 10 ∷ first.2) one.0 ∙ ap (λ rest. codes "bad" ++ 10 ∷ rest)
    (second.4 ∙ ap (λ text. text ++ 10 ∷ second.2) two ∙ ap (λ rest. codes "ok [hi] inline" ++ 10 ∷ rest) second.5.0)
