-- A text that comes in pieces: its lines, and what has come of the next one.
use Rattle.std.specs.Prelude.{◌≡◌, ◌≢◌, ℕ, List, [], ◌∷◌, ◌++◌, All}
use Rattle.std.specs.List.{flat_map}

-- it has no line feed
abbrev pub IsLine : List ℕ → Type 0
IsLine line = All (λ byte. byte ≢ 10) line

-- lines, each ended by a line feed
abbrev pub ended : List (List ℕ) → List ℕ
ended all = flat_map (λ line. line ++ 10 ∷ []) all

-- the text is these complete lines, and then what has come of the next
pub record Splits (text : List ℕ) (all : List (List ℕ)) (rest : List ℕ) : Type 0 where
  pub whole : text ≡ ended all ++ rest
  pub each : All IsLine all
  pub partial : IsLine rest

-- the end of the text ends a line, unless it has no bytes
abbrev pub last_line : List ℕ → List (List ℕ)
last_line [] = []
last_line (byte ∷ bytes) = (byte ∷ bytes) ∷ []
