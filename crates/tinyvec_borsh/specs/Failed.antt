-- The calls of a reader or writer that failed.
use Rattle.std.specs.Prelude.{ℕ, Bool, true, false, Result}
use Rattle.tinyvec_io.specs.Counted.{CountsFailed}
use Rattle.tinyvec_borsh.specs.declared.borsh_error.BorshError.{BorshError}
use Rattle.tinyvec_borsh.specs.declared.borsh_error.BorshError.TheVariants.{Io}

-- the error comes of the reader or writer
abbrev pub comes_of_io : BorshError → Bool
comes_of_io Io = true
comes_of_io error = false

-- A reading or writing took the number of calls that failed from `old` to `new`, with this result: one more if it is the error
-- `Io`, else none.
abbrev pub CountsIo : {T : Type 0} → ℕ → ℕ → Result T BorshError → Type 0
CountsIo old new result = CountsFailed comes_of_io old new result
