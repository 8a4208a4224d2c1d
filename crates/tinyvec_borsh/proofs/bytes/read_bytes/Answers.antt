use Rattle.std.proofs.Common.{◌<◌, ap, subst, sym, length, length-append, length-drop, take, drop, take-append-drop, arith, refl}
use Rattle.std.specs.List.{AllByRecursion}
use Rattle.tinyvec_borsh.proofs.AtFaults.{few-front, small-first}
use Rattle.tinyvec_borsh.proofs.NumberBlocks.{small_bytes}
use Rattle.tinyvec_borsh.proofs.bytes.read_bytes.Goals as goal

pub returns-in-Err-clause-fails : goal.returns-in-Err-clause-fails
returns-in-Err-clause-fails g c =
    let front = c.in-Err.ensures.err in
    let small = small_bytes c.fill.new.buf (λ i. omega (arith, c.type_inv.buf i)) in
    let taken = small-first front.0 front.1 (subst (AllByRecursion (λ byte. byte < 256)) front.2 small) in
    let few : length front.0 < length c.args.buf.now = omega (arith, ap length front.2, length-append front.0 front.1, front.3, c.fill.auto.buf) in
    record {
      err = c.in-Err.ensures.faults.fault;
      taken = record {
        bytes = front.0;
        taken = front.4;
        end = λ is. cc;
        needed = few-front taken few;
        short = λ _. (refl, taken, few);
      };
      grows = c.in-Err.ensures.faults.grows;
      failed = c.in-Err.ensures.failed;
    }

pub returns-in-Ok-clause-front : goal.returns-in-Ok-clause-front
returns-in-Ok-clause-front g c =
    let count = c.in-Ok.count in
    (take count c.fill.new.buf, drop count c.fill.new.buf, sym (take-append-drop count c.fill.new.buf), omega (arith, length-drop count c.fill.new.buf, c.fill.auto.buf), c.in-Ok.ensures.bytes)
