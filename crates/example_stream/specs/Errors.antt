-- What an error in a record is to the stream, and what is said of it.
use Rattle.std.specs.Prelude.{ℕ, List, codes}
use Rattle.tinyvec_borsh.specs.declared.borsh_error.BorshError.{BorshError}
use Rattle.tinyvec_borsh.specs.declared.borsh_error.BorshError.TheVariants as borsh
use Rattle.example_stream.specs.declared.stream_error.StreamError.{StreamError}
use Rattle.example_stream.specs.declared.stream_error.StreamError.TheVariants.{Cut, Io, Memory, TooManySamples, WrongTag}

abbrev pub stream_error : BorshError → StreamError
stream_error borsh.Ended = Cut
stream_error borsh.InvalidLength = TooManySamples
stream_error borsh.InvalidUtf8 = WrongTag
stream_error borsh.Io = Io
stream_error borsh.Memory = Memory

-- what an error of a stream says
abbrev pub stream_error_text : StreamError → List ℕ
stream_error_text Cut = codes "the stream is cut within a record"
stream_error_text WrongTag = codes "no record begins here"
stream_error_text TooManySamples = codes "a record has more than eight samples"
stream_error_text Io = codes "the reader reported a fault"
stream_error_text Memory = codes "out of memory"
