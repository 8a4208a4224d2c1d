use Rattle.std.proofs.Common.{rules}
use Rattle.std.proofs.lemmas.List.{take_rest}
use Rattle.tinyvec_io.proofs.Faults.{fault-then}
use Rattle.tinyvec_io.proofs.Pieces.{AppendsUpTo-piece}
use Rattle.tinyvec_io.proofs.counted.writing.CountedWrite.write_all.Goals as goal

pub loop-rest-preserved : goal.loop-rest-preserved
loop-rest-preserved g c = record {
  bytes = simp take_rest (AppendsUpTo-piece _ _ _ _ _ c.in_ok-count.count c.loop-rest.invariant.bytes c.in_ok-count.ensures.bytes);
  failed = search rules;
  last_fault = fault-then c.loop-rest.invariant.last_fault c.in_ok-count.ensures.last_fault;
  flushed = λ _. c.in_ok-count.ensures.flushed (search rules);
  within = search rules;
  grows = search rules;
}
