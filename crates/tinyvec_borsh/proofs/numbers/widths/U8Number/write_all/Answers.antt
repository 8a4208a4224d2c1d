use Rattle.std.proofs.Common.{arith, subst}
use Rattle.std.proofs.lemmas.Result.{on_err_weaker, on_ok_weaker}
use Rattle.tinyvec_borsh.proofs.NumberBlocks.{small_bytes, spells-bytes}
use Rattle.std.specs.Int.{w8}
use Rattle.tinyvec_io.specs.Counted.{AppendsFront}
use Rattle.tinyvec_borsh.specs.ItemsLaws.{one-items}
use Rattle.tinyvec_borsh.specs.NumberLaws.{unsigned}
use Rattle.tinyvec_borsh.proofs.numbers.widths.U8Number.write_all.Goals as goal

pub returns-clause-writes : goal.returns-clause-writes
returns-clause-writes g c =
    let items = c.args.items.now in
    let spelled = spells-bytes items (small_bytes items (λ i. omega (arith, c.type_inv.items i))) in
    let told = c.write_bytes.ensures in
    record {
      ok = on_ok_weaker c.write_bytes.result (λ h. (items, spelled, h)) told.ok;
      err = told.err;
      front = on_err_weaker c.write_bytes.result (λ h bytes p. subst (AppendsFront _ _) (one-items (unsigned w8).Spells (unsigned w8).code items items bytes spelled p) h) told.front;
      grows = told.faults_grow;
      failed = told.failed;
    }

pub returns-clause-valid : goal.returns-clause-valid
returns-clause-valid g c = on_ok_weaker c.write_bytes.result (λ _. small_bytes c.args.items.now (λ i. omega (arith, c.type_inv.items i))) c.write_bytes.ensures.ok
