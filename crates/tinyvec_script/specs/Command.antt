-- How calls are spelled, and which lines spell one.
use Rattle.std.specs.Prelude.{◌≡◌, ℕ, ◌+◌, ◌<◌, ◌≤◌, ◌^◌, List, [], ◌∷◌, ◌++◌, length, map, All, ℤ, FitsSigned, codes}
use Rattle.std.specs.Int.{w32}
use Rattle.std.specs.Fmt.{decimal, signed_decimal}
use Rattle.std.specs.List.{flat_map}
use Rattle.tinyvec_script.specs.declared.call.End.{End}
use Rattle.tinyvec_script.specs.declared.call.End.TheVariants.{Front, Back}
use Rattle.tinyvec_script.specs.declared.call.Call.{Call}
use Rattle.tinyvec_script.specs.declared.call.Call.TheVariants.{Push, Pop, Insert, Remove, SwapRemove, Truncate, Drain, Splice, SetLen, Reserve, Heap, Shrink}
use Rattle.tinyvec_script.specs.declared.command.Name.{Name}
use Rattle.tinyvec_script.specs.declared.command.Name.TheVariants.{A, S, T}

-- the letter of an end
abbrev pub letter_code : End → ℕ
letter_code Front = 102
letter_code Back = 98

-- a word of ends, which is a dash if it has no letters
abbrev pub word_text : List End → List ℕ
word_text [] = codes "-"
word_text (letter ∷ word) = letter_code letter ∷ map letter_code word

-- numbers, each after a blank
abbrev pub numbers_text : List ℤ → List ℕ
numbers_text numbers = flat_map (λ number. 32 ∷ signed_decimal number) numbers

-- how a splice is spelled: its range, its word, and its replacement
abbrev pub splice_text : ℕ → ℕ → List End → List ℤ → List ℕ
splice_text start end word numbers = decimal start ++ 32 ∷ (decimal end ++ 32 ∷ (word_text word ++ numbers_text numbers))

-- how a call is spelled after the name of its vector
abbrev pub spelling : Call ℤ → List ℕ
spelling (Push number) = codes "push " ++ signed_decimal number
spelling Pop = codes "pop"
spelling (Insert index number) = codes "insert " ++ (decimal index ++ 32 ∷ signed_decimal number)
spelling (Remove index) = codes "remove " ++ decimal index
spelling (SwapRemove index) = codes "swap " ++ decimal index
spelling (Truncate index) = codes "truncate " ++ decimal index
spelling (SetLen index) = codes "setlen " ++ decimal index
spelling (Reserve index) = codes "reserve " ++ decimal index
spelling Heap = codes "heap"
spelling Shrink = codes "shrink"
spelling (Drain start end) = codes "drain " ++ (decimal start ++ 32 ∷ decimal end)
spelling (Splice start end word numbers) = codes "splice " ++ splice_text start end word.items numbers.items

-- its numbers are of their types
abbrev pub Fits : Call ℤ → Type 0
Fits (Push number) = FitsSigned w32 number
Fits Pop = Unit {0}
Fits (Insert index number) = (index < 2 ^ 64) × FitsSigned w32 number
Fits (Remove index) = index < 2 ^ 64
Fits (SwapRemove index) = index < 2 ^ 64
Fits (Truncate index) = index < 2 ^ 64
Fits (SetLen index) = index < 2 ^ 64
Fits (Reserve index) = index < 2 ^ 64
Fits Heap = Unit {0}
Fits Shrink = Unit {0}
Fits (Drain start end) = (start < 2 ^ 64) × (end < 2 ^ 64)
Fits (Splice start end word numbers) = (start < 2 ^ 64) × (end < 2 ^ 64) × All (FitsSigned w32) numbers.items

-- the text spells this call
pub record IsCall (text : List ℕ) (call : Call ℤ) : Type 0 where
  pub spelled : text ≡ spelling call
  pub valid : Fits call

-- the text spells a splice by these letters and numbers, which have to be allocated
pub record IsSplice (text : List ℕ) (start end : ℕ) (word : List End) (numbers : List ℤ) : Type 0 where
  pub spelled : text ≡ codes "splice " ++ splice_text start end word numbers
  pub valid : (start < 2 ^ 64) × (end < 2 ^ 64) × All (FitsSigned w32) numbers
  pub some : 0 < length word + length numbers

-- how a vector is named
abbrev pub name_text : Name → List ℕ
name_text A = codes "A "
name_text S = codes "S "
name_text T = codes "T "

-- which vectors have splices
abbrev pub HasSplice : Name → Type 0
HasSplice A = Unit {0}
HasSplice S = ⊥
HasSplice T = Unit {0}

-- which calls a vector has
abbrev pub Has : Name → Call ℤ → Type 0
Has name (Splice start end word numbers) = HasSplice name
Has T (SetLen index) = ⊥
Has A (Reserve index) = ⊥
Has A Heap = ⊥
Has A Shrink = ⊥
Has S (Reserve index) = ⊥
Has S Heap = ⊥
Has S Shrink = ⊥
Has name call = Unit {0}

-- the call is no splice
abbrev pub IsNoSplice : Call ℤ → Type 0
IsNoSplice (Splice start end word numbers) = ⊥
IsNoSplice call = Unit {0}

-- the line spells this call of the vector
pub record IsCommand (line : List ℕ) (name : Name) (call : Call ℤ) : Type 0 where
  pub text : List ℕ
  pub named : line ≡ name_text name ++ text
  pub called : IsCall text call
  pub has : Has name call
  pub short : length line ≤ 128
