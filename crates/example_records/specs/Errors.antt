-- What is shown of how a stream ends, and of why a command is refused.
use Rattle.std.specs.Prelude.{ℕ, List, ◌++◌, codes, Ok, Err, Result}
use Rattle.std.specs.Fmt.{decimal}
use Rattle.example_stream.specs.Errors.{stream_error_text}
use Rattle.example_stream.specs.declared.stream_error.StreamError.{StreamError}
use Rattle.example_records.specs.declared.command_error.CommandError.{CommandError}
use Rattle.example_records.specs.declared.command_error.CommandError.TheVariants.{Hex, Length, Memory, Samples, Station, Text, Unknown, Words}

-- what a refusal of a command says
abbrev pub command_error_text : CommandError → List ℕ
command_error_text Text = codes "no text in UTF-8"
command_error_text Unknown = codes "no command: add, hex, cut, read and copy are"
command_error_text Station = codes "no station"
command_error_text Samples = codes "no list of up to eight samples"
command_error_text Hex = codes "no bytes in hex"
command_error_text Length = codes "no length within the stream"
command_error_text Words = codes "no words stand behind read and copy"
command_error_text Memory = codes "out of memory"

-- how many bytes the records have, and why no more were read
abbrev pub end_text : ℕ → Result (Unit {0}) StreamError → List ℕ
end_text len (Ok done) = codes "end after " ++ (decimal len ++ codes " bytes")
end_text len (Err error) = codes "end after " ++ (decimal len ++ (codes " bytes: " ++ stream_error_text error))
