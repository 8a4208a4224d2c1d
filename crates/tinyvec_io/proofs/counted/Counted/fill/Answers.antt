use Rattle.std.proofs.Common.{◌≡◌, ◌∙◌, ◌≤◌, rules, sym, subst, arith, ◌-◌, length}
use Rattle.std.specs.Io.KnownBytes.{Consumes}
use Rattle.std.proofs.KnownBytes.{Consumes-trans}
use Rattle.tinyvec_io.proofs.Faults.{fault-then}
use Rattle.tinyvec_io.proofs.Filled.{take-part, length-part, small-front}
use Rattle.tinyvec_io.proofs.counted.Counted.fill.Goals as goal

pub loop-filled-preserved : goal.loop-filled-preserved
loop-filled-preserved g c =
    let room = length c.loop-filled.buf - c.loop-filled.filled in
    let long : length c.read_some.new.buf ≡ room = search rules in
    let few : c.in_ok-count.count ≤ length c.read_some.new.buf = c.in_ok-count.ensures.bound.0 in
    record {
      bytes = subst (Consumes _ _) (sym (take-part c.loop-filled.filled room c.in_ok-count.count c.loop-filled.buf c.read_some.new.buf (omega arith) long (omega arith)))
          (Consumes-trans _ _ _ _ _ c.loop-filled.invariant.bytes c.in_ok-count.ensures.bytes);
      small = small-front _ _ (λ i. omega (arith, c.type_inv.buf i));
      bound = omega (arith, length-part c.loop-filled.filled room c.loop-filled.buf c.read_some.new.buf (omega arith) long);
      failed = search rules;
      last_fault = fault-then c.loop-filled.invariant.last_fault c.in_ok-count.ensures.last_fault;
      flushed = c.in_ok-count.ensures.flushed ∙ c.loop-filled.invariant.flushed;
      grows = omega arith;
    }
