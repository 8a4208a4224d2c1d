-- Digits in hex, and the bytes that pairs of them spell.
use Rattle.std.specs.Prelude.{◌≢◌, ℕ, ◌+◌, ◌-◌, ◌*◌, ◌&&◌, nat_le, if◌then◌else◌, List, [], ◌∷◌, Option, None, Some, option_map}
use Rattle.std.specs.Option.{option_zip}

-- the value of a digit, in either case: `0` to `9` are 48 to 57, `A` to `F` are 65 to 70, and `a` to `f` are 97 to 102
abbrev pub hex_value : ℕ → Option ℕ
hex_value digit =
    if nat_le 48 digit && nat_le digit 57 then Some (digit - 48)
    else if nat_le 65 digit && nat_le digit 70 then Some (digit - 55)
    else if nat_le 97 digit && nat_le digit 102 then Some (digit - 87)
    else None

-- the byte of two digits, if both are
abbrev pub byte_of : (high low : ℕ) → Option ℕ
byte_of high low = option_map (λ values. values.0 * 16 + values.1) (option_zip (hex_value high) (hex_value low))

-- the text begins with the two digits of a byte
abbrev pub HasByte : List ℕ → Type 0
HasByte [] = ⊥
HasByte (digit ∷ []) = ⊥
HasByte (high ∷ low ∷ rest) = byte_of high low ≢ None

-- the bytes of a text, if it is pairs of digits
unfoldable pub bytes_of : List ℕ → Option (List ℕ)
bytes_of [] = Some []
bytes_of (digit ∷ []) = None
bytes_of (high ∷ low ∷ rest) = option_map (λ bytes. bytes.0 ∷ bytes.1) (option_zip (byte_of high low) (bytes_of rest))
