-- Words of a line.
use Rattle.std.specs.Prelude.{◌≡◌, ◌⊎◌, ℕ, List, [], ◌∷◌}

-- the text is empty or begins with a blank
abbrev pub StartsBlank : List ℕ → Type 0
StartsBlank [] = Unit {0}
StartsBlank (byte ∷ bytes) = byte ≡ 32

-- the byte is a letter of a word of ends
abbrev pub IsLetter : ℕ → Type 0
IsLetter byte = (byte ≡ 102) ⊎ (byte ≡ 98)
