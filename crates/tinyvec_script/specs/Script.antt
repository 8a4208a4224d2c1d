-- The script as a relation of whole texts: what is read, and what is written.
use Rattle.std.specs.Prelude.{◌≡◌, ℕ, List, [], ◌∷◌, ◌++◌, ℤ, pos, codes, replicate}
use Rattle.tinyvec_io.specs.Lines.{Splits, last_line}
use Rattle.tinyvec_slots.specs.Slots.{Slots, split_at}
use Rattle.tinyvec_text.specs.InlineText.{Text}
use Rattle.tinyvec_script.specs.declared.call.Call.{Call}
use Rattle.tinyvec_script.specs.declared.call.Answer.{Answer}
use Rattle.tinyvec_script.specs.declared.command.Name.{Name}
use Rattle.tinyvec_script.specs.declared.command.Name.TheVariants.{A, S, T}
use Rattle.tinyvec_script.specs.Step.{ArrayStep, SliceStep}
use Rattle.tinyvec.specs.View.{TinyView, in_array}
use Rattle.tinyvec_script.specs.TinyCalls.{TinyStep}
use Rattle.tinyvec_script.specs.TextCalls.{TextCall, IsTextCommand, TextStep}
use Rattle.tinyvec_script.specs.Command.{IsCommand}
use Rattle.tinyvec_script.specs.Spelled.{NeedsMemory}
use Rattle.tinyvec_script.specs.Text.{answer_text, vector_text, tiny_text, inline_text_text}

-- the vectors of a script: `A` in an array, `S` in a lent slice, `T` in an array or on the heap, and `X`, a text there
pub record State : Type 0 where
  pub a : Slots ℤ
  pub s : Slots ℤ
  pub t : TinyView ℤ
  pub x : Text

-- four zeros, of which none holds the list
abbrev pub zeros : Slots ℤ
zeros = split_at 0 (replicate 4 (pos 0))

-- they start as empty lists over four zeros, and as an empty text with room for four bytes
abbrev pub start : State
start = record {
  a = zeros;
  s = zeros;
  t = record { items = []; spare = replicate 4 (pos 0); place = in_array 4 };
  x = record { bytes = []; place = in_array 4 };
}

-- the text of the vector of a name
abbrev pub text_of : Name → State → List ℕ
text_of A state = vector_text state.a
text_of S state = vector_text state.s
text_of T state = tiny_text state.t

-- what is a default of an `i32`
abbrev pub IsZero : ℤ → Type 0
IsZero number = number ≡ pos 0

-- a call of the vector of that name takes the old vectors to the new, with this answer
abbrev pub Steps : Name → State → Call ℤ → Answer ℤ → State → Type 0
Steps A old call answer new = ArrayStep IsZero 4 old.a call answer new.a × (new.s ≡ old.s) × (new.t ≡ old.t) × (new.x ≡ old.x)
Steps S old call answer new = SliceStep IsZero old.s call answer new.s × (new.a ≡ old.a) × (new.t ≡ old.t) × (new.x ≡ old.x)
Steps T old call answer new = TinyStep IsZero 4 old.t call answer new.t × (new.a ≡ old.a) × (new.s ≡ old.s) × (new.x ≡ old.x)

-- and so a call of the text
abbrev pub TextSteps : State → TextCall → Answer ℤ → State → Type 0
TextSteps old call answer new = TextStep old.x call answer new.x × (new.a ≡ old.a) × (new.s ≡ old.s) × (new.t ≡ old.t)

-- What is answered to one line, and the vectors that it leaves. A line that spells a call is answered by a step of its vector
-- or of the text. One for whose letters or numbers memory was refused is `memory`, and any other is `bad`; both change
-- nothing.
pub data Answered : State → List ℕ → List ℕ → State → Type 0 where
  done : {old new : State} {line text : List ℕ} (name : Name) (call : Call ℤ) (answer : Answer ℤ) → IsCommand line name call
      → Steps name old call answer new
      → text ≡ answer_text answer ++ codes " " ++ text_of name new → Answered old line text new
  memory : {old new : State} {line text : List ℕ} (name : Name) → NeedsMemory line name
      → text ≡ codes "memory" ++ codes " " ++ text_of name old → new ≡ old → Answered old line text new
  text_done : {old new : State} {line text : List ℕ} (call : TextCall) (answer : Answer ℤ) → IsTextCommand line call
      → TextSteps old call answer new
      → text ≡ answer_text answer ++ codes " " ++ inline_text_text new.x → Answered old line text new
  bad : {old new : State} {line text : List ℕ} → ((name : Name) (call : Call ℤ) → IsCommand line name call → ⊥)
      → ((call : TextCall) → IsTextCommand line call → ⊥)
      → text ≡ codes "bad" → new ≡ old → Answered old line text new

-- the answer lines to lines, one after another
abbrev pub Answers : State → List (List ℕ) → List ℕ → State → Type 0
Answers old [] output new = (output ≡ []) × (new ≡ old)
Answers old (line ∷ lines) output new =
    (text : List ℕ) × (mid : State) × (rest : List ℕ) × Answered old line text mid × (output ≡ text ++ 10 ∷ rest)
    × Answers mid lines rest new

-- the whole output to the whole input
pub record Script (input output : List ℕ) : Type 0 where
  pub lines : List (List ℕ)
  pub rest : List ℕ
  pub state : State
  pub split : Splits input lines rest
  pub answers : Answers start (lines ++ last_line rest) output state

-- the output to the complete lines of the input
pub record CompleteLines (input output : List ℕ) : Type 0 where
  pub lines : List (List ℕ)
  pub rest : List ℕ
  pub state : State
  pub split : Splits input lines rest
  pub answers : Answers start lines output state
