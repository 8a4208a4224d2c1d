-- Which end of a script failed.
use Rattle.std.specs.Prelude.{Bool, true, false}
use Rattle.tinyvec_script.specs.declared.script.RunError.{RunError}
use Rattle.tinyvec_script.specs.declared.script.RunError.TheVariants.{Read, Write}

-- the reader failed
abbrev pub is_read : RunError → Bool
is_read Read = true
is_read error = false

-- the writer failed
abbrev pub is_write : RunError → Bool
is_write Write = true
is_write error = false
