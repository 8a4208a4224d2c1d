-- The commands of the program: which lines are commands, and what each does to the stream and answers.
use Rattle.std.specs.Prelude.{◌≡◌, ◌≢◌, ℕ, ◌<◌, ◌≤◌, ◌^◌, ◌⊎◌, nat_lt, if◌then◌else◌, List, [], ◌∷◌, ◌++◌, length, map, slice_index, take, codes, eqb, Option, None, Some, Ok, Err, Result, OnOk, OnErr}
use Rattle.std.specs.List.{AllByRecursion, after_first, before_first, position_or_len}
use Rattle.std.specs.Str.{IsUtf8}
use Rattle.std.specs.Str.Parse.{IsNumeral, digits_value, without_leading_plus}
use Rattle.example_records.specs.Hex.{HasByte, bytes_of}
use Rattle.example_stream.specs.Readings.{ReadingFits, Said, said}
use Rattle.example_stream.specs.Stream.{BeginsWith, Gives, IsCopy, IsEnd, SpellsFrame, SpellsStream, StandsBehind, tag}
use Rattle.example_records.specs.declared.command_error.CommandError.{CommandError}
use Rattle.example_records.specs.declared.command_error.CommandError.TheVariants.{Hex as NoHex, Length, Memory, Samples, Station, Text, Unknown, Words}
use Rattle.example_stream.specs.declared.stream.Recovered.{Recovered}
use Rattle.example_stream.specs.declared.stream_error.StreamError.{StreamError}
use Rattle.example_stream.specs.declared.stream_error.StreamError.TheVariants.{Io, Memory as NoMemory}

-- ---- the words of a line

-- the text before the first blank, or all of it
abbrev pub word_of : List ℕ → List ℕ
word_of text = before_first (λ byte. eqb byte 32) text

-- the text after the first blank, or none
abbrev pub rest_of : List ℕ → List ℕ
rest_of text = after_first (λ byte. eqb byte 32) text

-- the text before the first comma, or all of it
abbrev pub part_of : List ℕ → List ℕ
part_of text = before_first (λ byte. eqb byte 44) text

-- the text after the first comma, if there is one
abbrev pub behind_comma : List ℕ → Option (List ℕ)
behind_comma text =
    if nat_lt (position_or_len (λ byte. eqb byte 44) text) (length text) then Some (after_first (λ byte. eqb byte 44) text) else None

-- the text spells the number in decimal: perhaps a plus, and then digits
pub record IsDecimal (text : List ℕ) (number : ℕ) : Type 0 where
  pub numeral : IsNumeral 10 (without_leading_plus text)
  pub value : digits_value 10 (without_leading_plus text) ≡ number

-- the text, if there is one, spells these numbers, with a comma between two
abbrev pub AreNumbers : Option (List ℕ) → List ℕ → Type 0
AreNumbers None [] = Unit {0}
AreNumbers None (number ∷ numbers) = ⊥
AreNumbers (Some text) [] = ⊥
AreNumbers (Some text) (number ∷ numbers) = IsDecimal (part_of text) number × AreNumbers (behind_comma text) numbers

-- the word is a dash for no samples, or their numbers
abbrev pub AreSamples : List ℕ → List ℕ → Type 0
AreSamples word samples = ((word ≡ codes "-") × (samples ≡ [])) ⊎ AreNumbers (Some word) samples

-- the text is the station, the samples, and then the note
pub record IsRecord (text : List ℕ) (c : Said) : Type 0 where
  pub station : IsDecimal (word_of text) (c.0)
  pub samples : AreSamples (word_of (rest_of text)) (c.1.0)
  pub note : c.1.1 ≡ rest_of (rest_of text)

-- ---- the commands

-- to append a record, to append bytes, to keep this many of the first bytes, to read the stream, to read a copy of it
pub data Command : Type 0 where
  Add : Said → Command
  Hex : List ℕ → Command
  Cut : ℕ → Command
  Read : Command
  Copy : Command

-- the first word of the command
abbrev pub command_word : Command → List ℕ
command_word (Add c) = codes "add"
command_word (Hex bytes) = codes "hex"
command_word (Cut len) = codes "cut"
command_word Read = codes "read"
command_word Copy = codes "copy"

-- What is after the word: a record that a reading can have, pairs of digits in hex, a length, or nothing.
abbrev pub IsAbout : Command → List ℕ → Type 0
IsAbout (Add c) rest = IsRecord rest c × ReadingFits c
IsAbout (Hex bytes) rest = bytes_of rest ≡ Some bytes
IsAbout (Cut len) rest = IsDecimal rest len
IsAbout Read rest = rest ≡ []
IsAbout Copy rest = rest ≡ []

-- the first word and what is after it are this command
abbrev pub Says : (word rest : List ℕ) → Command → Type 0
Says word rest command = (word ≡ command_word command) × IsAbout command rest

-- the line is text, and this command
abbrev pub Commands : (line : List ℕ) → Command → Type 0
Commands line command = IsUtf8 line × Says (word_of line) (rest_of line) command

-- there is a command of this word
abbrev pub IsCommand : List ℕ → Type 0
IsCommand word = (command : Command) × (word ≡ command_word command)

-- the record begins with the number of a station
abbrev pub HasStation : List ℕ → Type 0
HasStation rest = (number : ℕ) × IsDecimal (word_of rest) number × (number < 2 ^ 32)

-- the record also has samples
abbrev pub HasSamples : List ℕ → Type 0
HasSamples rest = HasStation rest × ((samples : List ℕ) × AreSamples (word_of (rest_of rest)) samples)

-- The reason of a refusal, by the first word and what is after it. Memory is refused only if it is asked for: for what
-- is a record, or begins with a byte, or to read.
abbrev pub Tells : (word rest : List ℕ) → CommandError → Type 0
Tells word rest Text = ⊥
Tells word rest Unknown = IsCommand word → ⊥
Tells word rest Station = (word ≡ codes "add") × (HasStation rest → ⊥)
Tells word rest Samples = (word ≡ codes "add") × HasStation rest
Tells word rest NoHex = word ≡ codes "hex"
Tells word rest Length = word ≡ codes "cut"
Tells word rest Words = (word ≡ codes "read") ⊎ (word ≡ codes "copy")
Tells word rest Memory = ((word ≡ codes "add") × HasSamples rest) ⊎ (((word ≡ codes "hex") × HasByte rest) ⊎ ((word ≡ codes "read") ⊎ (word ≡ codes "copy")))

-- ---- what they do

-- what a command answers: what was read, if it is to read
abbrev pub Answer : Type 0
Answer = Result (Option Recovered) CommandError

-- memory was refused, and the stream is as it was
abbrev pub IsOutOfMemory : (old new : List ℕ) → Answer → Type 0
IsOutOfMemory old new answer = (answer ≡ Err Memory) × (new ≡ old)

-- The records that are at the front of the stream were read, in order, and after them is what the end says.
-- If such records are there, just these were read, and their end was reported; or memory was refused, and the first ones were
-- read. No read failed.
pub record IsRead (stream : List ℕ) (read : List Said) (end : Result (Unit {0}) StreamError) : Type 0 where
  pub stands : BeginsWith read (StandsBehind end) stream
  pub fit : AllByRecursion ReadingFits read
  pub no_fault : end ≢ Err Io
  pub all : (cs : List Said) (bytes tail : List ℕ) (told : Result (Unit {0}) StreamError)
      → AllByRecursion ReadingFits cs → SpellsStream cs bytes → IsEnd told tail → stream ≡ bytes ++ tail → Gives cs told 0 0 read end

-- the records of the stream were read, written to a new stream, and these were read of it
pub record IsReadOfCopy (stream : List ℕ) (read : List Said) (end : Result (Unit {0}) StreamError) : Type 0 where
  pub records : List Said
  pub records_end : Result (Unit {0}) StreamError
  pub first : IsRead stream records records_end
  pub told : records_end ≢ Err NoMemory
  pub copied : IsCopy records read end

-- a record may begin here
abbrev pub HasTag : List ℕ → Type 0
HasTag stream = (0 < length stream) × (slice_index stream 0 ≡ tag)

-- What the command does to the stream, and what it answers. Memory may be refused for a record, for bytes if there are any,
-- and to read a stream that has a tag at its start, or its copy.
abbrev pub Does : Command → (old new : List ℕ) → Answer → Type 0
Does (Add c) old new answer = ((answer ≡ Ok None) × ((frame : List ℕ) × SpellsFrame c frame × (new ≡ old ++ frame))) ⊎ IsOutOfMemory old new answer
Does (Hex bytes) old new answer = ((answer ≡ Ok None) × (new ≡ old ++ bytes)) ⊎ ((0 < length bytes) × IsOutOfMemory old new answer)
Does (Cut len) old new answer = ((len ≤ length old) × (answer ≡ Ok None) × (new ≡ take len old)) ⊎ ((length old < len) × (answer ≡ Err Length) × (new ≡ old))
Does Read old new answer =
    ((new ≡ old) × ((recovered : Recovered) × (answer ≡ Ok (Some recovered)) × IsRead old (map said recovered.records.items) recovered.end))
    ⊎ (HasTag old × IsOutOfMemory old new answer)
Does Copy old new answer =
    ((new ≡ old) × ((recovered : Recovered) × (answer ≡ Ok (Some recovered)) × IsReadOfCopy old (map said recovered.records.items) recovered.end))
    ⊎ (HasTag old × IsOutOfMemory old new answer)

-- memory was refused, or else this holds
abbrev pub IsMemoryOr : Type 0 → CommandError → Type 0
IsMemoryOr P error = (error ≡ Memory) ⊎ P

-- Each command that is asked for is carried out. What is none of them is refused, and the stream stays as it is.
pub record Answers (Asks : Command → Type 0) (old new : List ℕ) (answer : Answer) : Type 0 where
  pub carried_out : (command : Command) → Asks command → Does command old new answer
  pub is_command : OnOk answer ((command : Command) × Asks command)
  pub refused : OnErr answer (new ≡ old)
