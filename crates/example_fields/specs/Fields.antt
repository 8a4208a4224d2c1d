-- What the contracts say of fields.
use Rattle.std.specs.Prelude.{ℕ, ◌≤◌, ◌==◌, List, length, slice_range}
use Rattle.std.specs.List.{slice_split}
use Rattle.example_fields.specs.declared.Field.{Field}

-- the bytes of a field of this line
abbrev pub bytes_of : List ℕ → Field → List ℕ
bytes_of line field = slice_range line field.start field.end

-- the field is in this line
abbrev pub IsIn : List ℕ → Field → Type 0
IsIn line field = (field.start ≤ field.end) × (field.end ≤ length line)

-- what is between the separators of a line, before the first one and after the last one
abbrev pub parts : ℕ → List ℕ → List (List ℕ)
parts separator line = slice_split (λ byte. byte == separator) line
