-- What a number, and a list of numbers, is written as in base 2, 8 or 16.
use Rattle.std.specs.Prelude.{ℕ, Bool, List, Option}
use Rattle.std.specs.Option.{option_map}
use Rattle.std.specs.Fmt.{debug_list, radix_digits}

-- the digits of the number's bits, if they are known and no more than 64
abbrev pub radix_text : ℕ → Bool → Option ℕ → Option (List ℕ)
radix_text base upper word = option_map (radix_digits base upper) word

-- the text of a list of numbers, if `word` tells the bits of each
abbrev pub list_in_radix : {X : Type 0} → (X → Option ℕ) → ℕ → Bool → List X → Option (List ℕ)
list_in_radix word base upper xs = debug_list (λ x. radix_text base upper (word x)) xs
