-- The normal form of a line and of a text.
use Rattle.std.specs.Prelude.{◌≡◌, ◌≢◌, ◌⊎◌, ℕ, ◌+◌, ◌<◌, ◌≤◌, ◌==◌, Bool, not, List, ◌∷◌, ◌++◌, map, length, All}
use Rattle.std.specs.List.{slice_split, filter, dedup, join_with_byte}
use Rattle.std.specs.Char.{is_ascii_whitespace, to_ascii_lowercase}
use Rattle.std.specs.Str.{bytes_eq}
use Rattle.std.specs.Str.Lines.{lines}
use Rattle.tinyvec_io.specs.Lines.{IsLine, ended, Splits}

-- some byte is in it
abbrev pub has_bytes : List ℕ → Bool
has_bytes bytes = not (length bytes == 0)

-- what is between the blanks of a line: spaces, tabs and the other white space of ASCII
abbrev pub words : List ℕ → List (List ℕ)
words line = filter has_bytes (slice_split is_ascii_whitespace line)

-- the words of the line in lower case, each said once if it repeats the one before
abbrev pub normal_words : List ℕ → List (List ℕ)
normal_words line = dedup bytes_eq (words (map to_ascii_lowercase line))

-- The normal form of a line: these words with one space between each two.
unfoldable pub normal_line : List ℕ → List ℕ
normal_line line = join_with_byte 32 (normal_words line)

-- A line that needs no memory: its bytes fit the array of `LineText`.
abbrev pub IsShort : List ℕ → Type 0
IsShort line = length line ≤ 80

-- each part of the text between its line feeds is short
abbrev pub AllShort : List ℕ → Type 0
AllShort text = All IsShort (slice_split (λ byte. byte == 10) text)

-- The output is the normal form of the input: its lines are the normal forms of the input's lines, and each is ended. The
-- lines are those of Rust's `str::lines`.
pub record Tidied (input output : List ℕ) : Type 0 where
  pub lines_of : lines output ≡ map normal_line (lines input)
  pub ended_by : output ≡ ended (lines output)

-- The output is the normal form of the first lines of the input, which may go on.
pub record TidiedFront (input output : List ℕ) : Type 0 where
  pub all : List (List ℕ)
  pub rest : List ℕ
  pub whole : input ≡ ended all ++ rest
  pub each : All IsLine all
  pub says : output ≡ ended (map normal_line all)

-- The output is the normal form of exactly the lines of the input before one with more than 80 bytes.
pub record TidiedBeforeLong (input output : List ℕ) : Type 0 where
  pub all : List (List ℕ)
  pub long : List ℕ
  pub rest : List ℕ
  pub whole : input ≡ ended all ++ (long ++ rest)
  pub each : All IsLine all
  pub in_line : IsLine long
  pub is_long : 80 < length long
  pub says : output ≡ ended (map normal_line all)

-- The output is the normal form of the complete lines of the input, and this has come of the next line.
pub record TidiedUpTo (input output line : List ℕ) : Type 0 where
  pub all : List (List ℕ)
  pub split : Splits input all line
  pub says : output ≡ ended (map normal_line all)

-- after these bytes, for which this is said, `new` has come of the next line, if `old` had
abbrev pub Advances : List ℕ → List ℕ → List ℕ → List ℕ → Type 0
Advances old bytes said new = (input output : List ℕ) → TidiedUpTo input output old → TidiedUpTo (input ++ bytes) (output ++ said) new

-- Memory is refused at a byte: what was said before it, and the line that it belongs to, of which `line` has come. With room
-- for this many bytes of the line and of what is said, that line is not short, or has no place in what is said.
pub record Refuses (old bytes said line : List ℕ) (line_room room : ℕ) : Type 0 where
  pub front : List ℕ
  pub byte : ℕ
  pub rest : List ℕ
  pub whole : bytes ≡ front ++ byte ∷ rest
  pub advances : Advances old front said line
  pub full : (byte ≢ 10 → length line < line_room) → (byte ≡ 10 → IsShort line × (length said + length (normal_line line) < room)) → ⊥

-- what is said is the normal form of the lines that some of these bytes end
abbrev pub EndsSome : List ℕ → List ℕ → List ℕ → Type 0
EndsSome old bytes said = (input output : List ℕ) → TidiedUpTo input output old → TidiedFront (input ++ bytes) (output ++ said)

-- what is said is the normal form of the lines before one that needs memory
abbrev pub EndsBeforeLong : List ℕ → List ℕ → List ℕ → Type 0
EndsBeforeLong old bytes said = (input output : List ℕ) → TidiedUpTo input output old → TidiedBeforeLong (input ++ bytes) (output ++ said)

-- what is said at the end of the input makes the output its normal form
abbrev pub Ends : List ℕ → List ℕ → Type 0
Ends line said = (input output : List ℕ) → TidiedUpTo input output line → Tidied input (output ++ said)

-- The output is a beginning of the normal form of the input, or of its first lines.
abbrev pub IsBegun : List ℕ → List ℕ → Type 0
IsBegun input output = (missing : List ℕ) × (TidiedFront input (output ++ missing) ⊎ Tidied input (output ++ missing))
