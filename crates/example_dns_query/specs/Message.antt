-- The bytes of a query.
use Rattle.std.specs.Prelude.{ℕ, ◌/◌, ◌%◌, List, [], ◌∷◌, ◌++◌}
use Rattle.example_dns_query.specs.Name.{name_wire}
use Rattle.example_dns_query.specs.declared.record_type.RecordType.{RecordType}
use Rattle.example_dns_query.specs.declared.record_type.RecordType.TheVariants.{A, Ns, Cname, Soa, Ptr, Mx, Txt, Aaaa}

-- a number of two bytes, the higher byte first
abbrev pub two_bytes : ℕ → List ℕ
two_bytes n = n / 256 ∷ n % 256 ∷ []

-- the number of a type of record
abbrev pub code_of : RecordType → ℕ
code_of A = 1
code_of Ns = 2
code_of Cname = 5
code_of Soa = 6
code_of Ptr = 12
code_of Mx = 15
code_of Txt = 16
code_of Aaaa = 28

-- the flags: of these only that recursion is desired
abbrev pub flags : List ℕ
flags = 1 ∷ 0 ∷ []

-- one question, and no record in the three other sections
abbrev pub counts : List ℕ
counts = two_bytes 1 ++ two_bytes 0 ++ two_bytes 0 ++ two_bytes 0

abbrev pub header : ℕ → List ℕ
header id = two_bytes id ++ flags ++ counts

-- the type and the class, which is the Internet
abbrev pub type_and_class : RecordType → List ℕ
type_and_class record_type = two_bytes (code_of record_type) ++ two_bytes 1

-- the header, then the question: the name, its type and its class
abbrev pub query : ℕ → List (List ℕ) → RecordType → List ℕ
query id labels record_type = header id ++ (name_wire labels ++ type_and_class record_type)
