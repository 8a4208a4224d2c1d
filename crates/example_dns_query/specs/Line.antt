-- A line that asks for a query.
use Rattle.std.specs.Prelude.{◌≡◌, ◌≢◌, ◌<◌, ◌^◌, ℕ, List, All, Some, [], ◌∷◌, ◌++◌, length, drop, slice_index_or, codes}
use Rattle.std.specs.Str.Parse.{IsNumeral, digits_value, without_leading_plus}
use Rattle.example_dns_query.specs.Message.{query}
use Rattle.example_dns_query.specs.Name.{IsPrinted, IsLabel, IsName, first_fault, labels_of, name_wire}
use Rattle.example_dns_query.specs.Parts.{parts}
use Rattle.example_dns_query.specs.declared.line.LineError.{LineError}
use Rattle.example_dns_query.specs.declared.line.LineError.TheVariants.{Words, Number, UnknownType, Query}
use Rattle.example_dns_query.specs.declared.query.QueryError.{QueryError}
use Rattle.example_dns_query.specs.declared.query.QueryError.TheVariants.{BadByte, EmptyLabel, LongLabel, LongName, Full}
use Rattle.example_dns_query.specs.declared.record_type.RecordType.{RecordType}
use Rattle.example_dns_query.specs.declared.record_type.RecordType.TheVariants.{A, Ns, Cname, Soa, Ptr, Mx, Txt, Aaaa}

-- the words of a line, with a blank between two
abbrev pub words : List ℕ → List (List ℕ)
words line = parts 32 line

-- the word spells the number in decimal: perhaps a plus, and then digits
pub record IsDecimal (word : List ℕ) (number : ℕ) : Type 0 where
  pub numeral : IsNumeral 10 (without_leading_plus word)
  pub value : digits_value 10 (without_leading_plus word) ≡ number

-- the word spells a number of two bytes
abbrev pub IsId : List ℕ → Type 0
IsId word = (id : ℕ) × (id < 2 ^ 16) × IsDecimal word id

-- the word for a type of record
abbrev pub word_of : RecordType → List ℕ
word_of A = codes "A"
word_of Ns = codes "NS"
word_of Cname = codes "CNAME"
word_of Soa = codes "SOA"
word_of Ptr = codes "PTR"
word_of Mx = codes "MX"
word_of Txt = codes "TXT"
word_of Aaaa = codes "AAAA"

-- the line is a number, the text of a name and the word for a type
pub record Asks (line : List ℕ) (id : ℕ) (name : List ℕ) (record_type : RecordType) : Type 0 where
  pub number : List ℕ
  pub three : words line ≡ number ∷ name ∷ word_of record_type ∷ []
  pub decimal : IsDecimal number id

-- the message of the query that the line asks for
pub record AsksFor (line message : List ℕ) : Type 0 where
  pub id : ℕ
  pub name : List ℕ
  pub record_type : RecordType
  pub asks : Asks line id name record_type
  pub is_name : IsName name
  pub whole : message ≡ query id (labels_of name) record_type

-- the slice begins with the query that the line asks for, which is so long, and is otherwise as it was
pub record Answers (line old new : List ℕ) (len : ℕ) : Type 0 where
  pub message : List ℕ
  pub asked : AsksFor line message
  pub long : len ≡ length message
  pub written : new ≡ message ++ drop len old

-- what is wrong with a query for such a name, if the slice has room for this many bytes
abbrev pub HasFault : ℕ → List ℕ → RecordType → ℕ → QueryError → Type 0
HasFault id name record_type room BadByte = All IsPrinted name → ⊥
HasFault id name record_type room EmptyLabel = All IsPrinted name × (first_fault (labels_of name) ≡ Some EmptyLabel)
HasFault id name record_type room LongLabel = All IsPrinted name × (first_fault (labels_of name) ≡ Some LongLabel)
HasFault id name record_type room LongName = All IsPrinted name × All IsLabel (labels_of name) × (255 < length (name_wire (labels_of name)))
HasFault id name record_type room Full = IsName name × (room < length (query id (labels_of name) record_type))

-- the line asks for a query with this fault
pub record AsksFaulty (line : List ℕ) (room : ℕ) (fault : QueryError) : Type 0 where
  pub id : ℕ
  pub name : List ℕ
  pub record_type : RecordType
  pub small : id < 2 ^ 16
  pub asks : Asks line id name record_type
  pub faulty : HasFault id name record_type room fault

-- what is wrong with a line, if the slice has room for this many bytes
abbrev pub HasLineFault : List ℕ → ℕ → LineError → Type 0
HasLineFault line room Words = length (words line) ≢ 3
HasLineFault line room Number = (length (words line) ≡ 3) × (IsId (slice_index_or (words line) 0 []) → ⊥)
HasLineFault line room UnknownType =
    (length (words line) ≡ 3) × IsId (slice_index_or (words line) 0 [])
    × ((record_type : RecordType) → slice_index_or (words line) 2 [] ≢ word_of record_type)
HasLineFault line room (Query fault) = AsksFaulty line room fault
