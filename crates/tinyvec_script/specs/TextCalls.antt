-- The text of a script: how its calls are spelled, what they may be answered, and what they then leave.
use Rattle.std.specs.Prelude.{◌≡◌, ℕ, ℤ, ◌+◌, ◌<◌, ◌≤◌, ◌^◌, List, ◌++◌, length, codes, chars, IsUtf8}
use Rattle.std.specs.Fmt.{decimal}
use Rattle.tinyvec.specs.View.{Reserved, place_for}
use Rattle.tinyvec_text.specs.InlineText.{Text, text_chars, text_len, TextBecomesIn, TextKeepsFront, SplitsAt}
use Rattle.tinyvec_script.specs.declared.call.Answer.{Answer}
use Rattle.tinyvec_script.specs.declared.call.Answer.TheVariants as answers
use Rattle.tinyvec_script.specs.declared.text_command.TextCall.{TextCall as Said}
use Rattle.tinyvec_script.specs.declared.text_command.TextCall.TheVariants as said

-- a call of a text: to append these bytes, or to keep this many of its bytes
pub data TextCall : Type 0 where
  add : List ℕ → TextCall
  cut : ℕ → TextCall

-- what the program takes a line for
abbrev pub call_of : Said → TextCall
call_of (said.Add text) = add text.now
call_of (said.Cut index) = cut index

-- how a call is spelled after the name of the text
abbrev pub text_spelling : TextCall → List ℕ
text_spelling (add text) = codes "add " ++ text
text_spelling (cut index) = codes "cut " ++ decimal index

-- what is appended are characters, one at least, and an index is of its type
abbrev pub TextFits : TextCall → Type 0
TextFits (add text) = (0 < length text) × IsUtf8 text
TextFits (cut index) = index < 2 ^ 64

-- the line spells this call of the text
pub record IsTextCommand (line : List ℕ) (call : TextCall) : Type 0 where
  pub spelled : line ≡ codes "X " ++ text_spelling call
  pub valid : TextFits call
  pub short : length line ≤ 128

-- From the old text the call may have this answer, and leave the new one. A refused allocation is a case of its own: `Memory`
-- only if the joined text does not fit the room of the old one. It changes nothing, and neither does `Range`.
abbrev pub TextStep : Text → TextCall → Answer ℤ → Text → Type 0
TextStep old (add text) answers.Done new =
    TextBecomesIn new (old.bytes ++ text) (text_chars old ++ chars text)
    (place_for Reserved (text_len old + length text) old.place)
TextStep old (add text) answers.Memory new = (old.place.capacity < text_len old + length text) × (new ≡ old)
TextStep old (cut index) answers.Done new = SplitsAt old index × TextKeepsFront index old new
TextStep old (cut index) answers.Range new = (SplitsAt old index → ⊥) × (new ≡ old)
-- no other answer is given
TextStep old call answer new = ⊥
