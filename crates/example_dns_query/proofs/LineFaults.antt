-- Which error is told of a line.
use Rattle.std.proofs.Common.{◌≡◌, ◌∙◌, ◌↔◌, ℕ, List, [], ◌∷◌, Result, Err, sym, subst, arith}
use Rattle.example_dns_query.specs.Line.{Asks, AsksFaulty, HasFault, HasLineFault, word_of, words}
use Rattle.example_dns_query.specs.Name.{labels_of}
use Rattle.example_dns_query.specs.declared.line.LineError.{LineError}
use Rattle.example_dns_query.specs.declared.line.LineError.TheVariants.{Words, Number, UnknownType, Query}
use Rattle.example_dns_query.specs.declared.query.QueryError.{QueryError}
use Rattle.example_dns_query.specs.declared.query.QueryError.TheVariants.{BadByte, EmptyLabel, LongLabel, LongName, Full}
use Rattle.example_dns_query.specs.declared.record_type.RecordType.{RecordType}
use Rattle.example_dns_query.proofs.MessageLemmas.{length-query}

-- each error of a query comes where its fault is there
pub tells_fault : (id : ℕ) (name : List ℕ) (record_type : RecordType) (room : ℕ) (r : Result ℕ QueryError)
    → ((r ≡ Err BadByte) ↔ HasFault id name record_type room BadByte) → ((r ≡ Err EmptyLabel) ↔ HasFault id name record_type room EmptyLabel)
    → ((r ≡ Err LongLabel) ↔ HasFault id name record_type room LongLabel) → ((r ≡ Err LongName) ↔ HasFault id name record_type room LongName)
    → ((r ≡ Err Full) ↔ HasFault id name record_type room Full) → (fault : QueryError) → (r ≡ Err fault) ↔ HasFault id name record_type room fault
tells_fault id name record_type room r bad_byte empty_label long_label long_name full BadByte = bad_byte
tells_fault id name record_type room r bad_byte empty_label long_label long_name full EmptyLabel = empty_label
tells_fault id name record_type room r bad_byte empty_label long_label long_name full LongLabel = long_label
tells_fault id name record_type room r bad_byte empty_label long_label long_name full LongName = long_name
tells_fault id name record_type room r bad_byte empty_label long_label long_name full Full = full

same_name : (line : List ℕ) (id id' : ℕ) (name name' : List ℕ) (record_type record_type' : RecordType)
    → Asks line id name record_type → Asks line id' name' record_type' → name ≡ name'
same_name line id id' name name' record_type record_type' a b =
    let same : a.number ∷ name ∷ word_of record_type ∷ [] ≡ b.number ∷ name' ∷ word_of record_type' ∷ [] = sym a.three ∙ b.three in
    cc

-- a line asks for one name, and the length of the message is that for the name
pub same_fault : (line : List ℕ) (id id' : ℕ) (name name' : List ℕ) (record_type record_type' : RecordType) (room : ℕ) (fault : QueryError)
    → Asks line id name record_type → Asks line id' name' record_type' → HasFault id name record_type room fault → HasFault id' name' record_type' room fault
same_fault line id id' name name' record_type record_type' room fault a b faulty =
    by_fault fault (subst (λ n. HasFault id n record_type room fault) (same_name line id id' name name' record_type record_type' a b) faulty)
  where
    by_fault : (f : QueryError) → HasFault id name' record_type room f → HasFault id' name' record_type' room f
    by_fault BadByte h = h
    by_fault EmptyLabel h = h
    by_fault LongLabel h = h
    by_fault LongName h = h
    by_fault Full h = (h.0, omega (arith, h.1, length-query id (labels_of name') record_type, length-query id' (labels_of name') record_type'))

-- each error of a line tells its fault
pub tells_line_fault : (line : List ℕ) (room : ℕ) (r : Result ℕ LineError)
    → ((fault : QueryError) → (r ≡ Err (Query fault)) ↔ AsksFaulty line room fault)
    → ((r ≡ Err Words) ↔ HasLineFault line room Words) → ((r ≡ Err Number) ↔ HasLineFault line room Number)
    → ((r ≡ Err UnknownType) ↔ HasLineFault line room UnknownType) → (error : LineError) → r ≡ Err error → HasLineFault line room error
tells_line_fault line room r query_fault words number unknown Words is = words.0 is
tells_line_fault line room r query_fault words number unknown Number is = number.0 is
tells_line_fault line room r query_fault words number unknown UnknownType is = unknown.0 is
tells_line_fault line room r query_fault words number unknown (Query fault) is = (query_fault fault).0 is
