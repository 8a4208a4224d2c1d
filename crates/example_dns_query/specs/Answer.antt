-- What is written for a line.
use Rattle.std.specs.Prelude.{◌≡◌, ◌⊎◌, ℕ, ◌+◌, ◌/◌, ◌%◌, if◌then◌else◌, nat_lt, List, [], ◌∷◌, ◌++◌, codes}
use Rattle.std.specs.List.{flat_map}
use Rattle.example_dns_query.specs.Line.{AsksFor, HasLineFault}
use Rattle.example_dns_query.specs.declared.line.LineError.{LineError}
use Rattle.example_dns_query.specs.declared.line.LineError.TheVariants.{Words, Number, UnknownType, Query}
use Rattle.example_dns_query.specs.declared.query.QueryError.{QueryError}
use Rattle.example_dns_query.specs.declared.query.QueryError.TheVariants.{BadByte, EmptyLabel, LongLabel, LongName, Full}

-- what an error of a query says
abbrev pub query_error_text : QueryError → List ℕ
query_error_text BadByte = codes "the name has a byte that is no printed ASCII character"
query_error_text EmptyLabel = codes "the name has a label with no byte"
query_error_text LongLabel = codes "the name has a label with more than 63 bytes"
query_error_text LongName = codes "the name has more than 255 bytes on the wire"
query_error_text Full = codes "the message does not fit the slice"

-- what an error of a line says
abbrev pub line_error_text : LineError → List ℕ
line_error_text Words = codes "a line is a number, a name and a type, with one blank between two"
line_error_text Number = codes "the first word is no number from 0 to 65535"
line_error_text UnknownType = codes "the third word is none of A, NS, CNAME, SOA, PTR, MX, TXT and AAAA"
line_error_text (Query fault) = query_error_text fault

-- the hexadecimal digit of a number below 16
abbrev pub digit_of : ℕ → ℕ
digit_of number = if nat_lt number 10 then 48 + number else 87 + number

-- two digits for each byte
abbrev pub hex_of : List ℕ → List ℕ
hex_of bytes = flat_map (λ byte. digit_of (byte / 16) ∷ digit_of (byte % 16) ∷ []) bytes

-- the text is the message that the line asks for in hexadecimal, or says what is wrong with the line; it ends with a line feed
abbrev pub AnswersLine : List ℕ → List ℕ → Type 0
AnswersLine line text =
    ((message : List ℕ) × AsksFor line message × (text ≡ hex_of message ++ 10 ∷ []))
    ⊎ ((error : LineError) × HasLineFault line 512 error × (text ≡ codes "error: " ++ (line_error_text error ++ 10 ∷ [])))
