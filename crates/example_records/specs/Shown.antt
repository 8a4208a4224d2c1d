-- What is shown of the records of a stream, and the answers to lines.
use Rattle.std.specs.Prelude.{◌≡◌, ℕ, ◌-◌, ◌^◌, ◌==◌, if◌then◌else◌, List, [], ◌∷◌, ◌++◌, codes, length, map, min, Option, None, Some, IfSome, Ok, Err, IfErr, Result}
use Rattle.std.specs.Fmt.{◌++?◌, debug_list, debug_str, decimal}
use Rattle.std.specs.Str.{IsUtf8}
use Rattle.example_records.specs.Commands.{Answer, Answers, Commands, IsCommand, Tells, rest_of, word_of}
use Rattle.example_records.specs.Errors.{command_error_text, end_text}
use Rattle.example_stream.specs.Readings.{Said, said}
use Rattle.example_stream.specs.Stream.{SpellsStream}
use Rattle.example_records.specs.declared.command_error.CommandError.TheVariants.{Text, Unknown}
use Rattle.example_stream.specs.declared.stream_error.StreamError.{StreamError}

-- the station, the samples and a note that is shown so, with a blank between two, and a line feed
abbrev pub line_text : Said → Option (List ℕ) → Option (List ℕ)
line_text c note =
    Some (decimal c.0) ++? (Some (codes " ") ++? (debug_list (λ n. Some (decimal n)) (c.1.0) ++? (Some (codes " ") ++? (note ++? Some (10 ∷ [])))))

-- The text shows the record: the note as text if it is, else as a list of bytes. Nothing is said of a note with a
-- character that is not in ASCII.
pub record IsLineOf (c : Said) (text : List ℕ) : Type 0 where
  pub as_text : IsUtf8 (c.1.1) → IfSome (line_text c (debug_str (c.1.1))) (λ line. text ≡ line)
  pub as_bytes : (IsUtf8 (c.1.1) → ⊥) → IfSome (line_text c (debug_list (λ n. Some (decimal n)) (c.1.1))) (λ line. text ≡ line)

-- the text is a line for each record, in order
abbrev pub AreLinesOf : List Said → List ℕ → Type 0
AreLinesOf [] text = text ≡ []
AreLinesOf (c ∷ cs) text = (first rest : List ℕ) × IsLineOf c first × AreLinesOf cs rest × (text ≡ first ++ rest)

-- The text shows the records, and then where they end in their stream, and why no more were read.
pub record IsShown (cs : List Said) (end : Result (Unit {0}) StreamError) (text : List ℕ) : Type 0 where
  pub lines : List ℕ
  pub last : List ℕ
  pub are : AreLinesOf cs lines
  pub is_end : (bytes : List ℕ) → SpellsStream cs bytes → last ≡ end_text (min (length bytes) (2 ^ 64 - 1)) end
  pub whole : text ≡ lines ++ last

-- ---- answers

-- the length of a stream as it is shown
abbrev pub len_text : ℕ → List ℕ
len_text len = if len == 1 then codes "1 byte" else decimal len ++ codes " bytes"

-- The text says what was answered, if the stream then has this length. It ends with a line feed.
abbrev pub IsTextOf : Answer → (len : ℕ) → List ℕ → Type 0
IsTextOf (Ok None) len text = text ≡ len_text len ++ 10 ∷ []
IsTextOf (Ok (Some recovered)) len text = (shown : List ℕ) × IsShown (map said recovered.records.items) recovered.end shown × (text ≡ shown ++ 10 ∷ [])
IsTextOf (Err error) len text = text ≡ codes "refused: " ++ (command_error_text error ++ 10 ∷ [])

-- A line was answered so, as `run` has it, and this is the text of the answer.
pub record IsAnswered (line old new text : List ℕ) : Type 0 where
  pub answer : Answer
  pub answers : Answers (Commands line) old new answer
  pub no_text : (IsUtf8 line → ⊥) → answer ≡ Err Text
  pub unknown : IsUtf8 line → (IsCommand (word_of line) → ⊥) → answer ≡ Err Unknown
  pub tells : IsUtf8 line → IfErr answer (Tells (word_of line) (rest_of line))
  pub says : IsTextOf answer (length new) text
