use Rattle.std.proofs.Common.{IsTrue, take}
use Rattle.std.specs.List.{All}
use Rattle.example_dns_query.specs.Name.{IsPrinted}
use Rattle.example_dns_query.proofs.query.are_printed.Given as goal

abbrev pub invariant-loop-byte : goal.invariant-loop-byte
invariant-loop-byte l = record {
  printed : IsTrue l.are → All IsPrinted (take l.byte-index l.name);
  told : All IsPrinted l.name → IsTrue l.are;
}
