-- How long a query is.
use Rattle.std.proofs.Common.{◌≡◌, ℕ, ◌+◌, List, length, arith, length-append}
use Rattle.example_dns_query.specs.Name.{name_wire}
use Rattle.example_dns_query.specs.Message.{query, type_and_class}
use Rattle.example_dns_query.specs.declared.record_type.RecordType.{RecordType}

pub length-query : (id : ℕ) (labels : List (List ℕ)) (record_type : RecordType)
    → length (query id labels record_type) ≡ 12 + length (name_wire labels) + 4
length-query id labels record_type = omega (arith, length-append (name_wire labels) (type_and_class record_type))
