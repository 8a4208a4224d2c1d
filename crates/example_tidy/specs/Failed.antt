-- Which end of a program failed.
use Rattle.std.specs.Prelude.{Bool, true, false}
use Rattle.example_tidy.specs.declared.stream.TidyError.{TidyError}
use Rattle.example_tidy.specs.declared.stream.TidyError.TheVariants.{Read, Write}

-- the reader failed
abbrev pub is_read : TidyError → Bool
is_read (Read error) = true
is_read error = false

-- the writer failed
abbrev pub is_write : TidyError → Bool
is_write (Write error) = true
is_write error = false
