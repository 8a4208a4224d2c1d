-- The text of a list, of an answer and of a vector.
use Rattle.std.specs.Prelude.{ℕ, ◌+◌, ◌/◌, ◌%◌, List, [], ◌∷◌, ◌++◌, ℤ, codes, Bool, true, false}
use Rattle.std.specs.Fmt.{signed_decimal}
use Rattle.std.specs.List.{join_by}
use Rattle.tinyvec_slots.specs.Slots.{Slots, items_in, spare_in}
use Rattle.tinyvec_text.specs.InlineText.{Text}
use Rattle.tinyvec.specs.View.{TinyView}
use Rattle.tinyvec_script.specs.declared.call.Answer.{Answer}
use Rattle.tinyvec_script.specs.declared.call.Answer.TheVariants as answers

-- the two digits of a number below 100
abbrev pub digit_pair : ℕ → List ℕ
digit_pair number = (48 + number / 10) ∷ (48 + number % 10) ∷ []

-- a list in brackets
unfoldable pub list_text : List ℤ → List ℕ
list_text numbers = codes "[" ++ join_by signed_decimal (codes ", ") numbers ++ codes "]"

-- an answer
abbrev pub answer_text : Answer ℤ → List ℕ
answer_text answers.Done = codes "ok"
answer_text (answers.Some number) = codes "some " ++ signed_decimal number
answer_text answers.None = codes "none"
answer_text (answers.Items numbers) = codes "items " ++ list_text numbers.items
answer_text (answers.Spliced numbers rest) =
    codes "items " ++ list_text numbers.items ++ codes " rest " ++ list_text rest.items
answer_text answers.Full = codes "full"
answer_text answers.Range = codes "range"
answer_text answers.Memory = codes "memory"
answer_text answers.Unfit = codes "unfit"

-- a list and the spare slots after it
unfoldable pub state_text : List ℤ → List ℤ → List ℕ
state_text items spare = list_text items ++ codes " " ++ list_text spare

-- a vector: its list and its spare slots
abbrev pub vector_text : Slots ℤ → List ℕ
vector_text v = state_text (items_in v) (spare_in v)

-- the place of a list
abbrev pub place_text : Bool → List ℕ
place_text true = codes "inline"
place_text false = codes "heap"

-- a list and its place
unfoldable pub place_state_text : List ℤ → Bool → List ℕ
place_state_text items inline = list_text items ++ codes " " ++ place_text inline

-- a vector: its list and its place
abbrev pub tiny_text : TinyView ℤ → List ℕ
tiny_text v = place_state_text v.items v.place.inline

-- the bytes of a text in brackets, and its place
unfoldable pub text_state_text : List ℕ → Bool → List ℕ
text_state_text bytes inline = codes "[" ++ bytes ++ codes "] " ++ place_text inline

-- a text and its place
abbrev pub inline_text_text : Text → List ℕ
inline_text_text x = text_state_text x.bytes x.place.inline
