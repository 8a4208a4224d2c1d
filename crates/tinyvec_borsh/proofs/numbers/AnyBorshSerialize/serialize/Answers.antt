use Rattle.std.proofs.Common.{◌∙◌, subst, sym}
use Rattle.std.proofs.lemmas.Result.{on_err_weaker, on_ok_weaker}
use Rattle.tinyvec_io.specs.Counted.{AppendsFront}
use Rattle.tinyvec_borsh.proofs.numbers.AnyBorshSerialize.serialize.Goals as goal

pub returns-clause-writes : goal.returns-clause-writes
returns-clause-writes g c =
    let spelled = subst (g.T.FixedWidth.form.Spells c.args.self.now) (sym (c.as_slice.ensures.value ∙ c.to_bytes.ensures.bytes)) (g.T.FixedWidth.form.written c.args.self.now c.to_bytes.ensures.valid) in
    let told = c.write_bytes.ensures in
    record {
      ok = on_ok_weaker c.write_bytes.result (λ h. (c.as_slice.result.now, spelled, h)) told.ok;
      err = told.err;
      front = on_err_weaker c.write_bytes.result (λ h bytes p. subst (AppendsFront _ _) (g.T.FixedWidth.form.code.one_spelling c.args.self.now c.as_slice.result.now bytes spelled p) h) told.front;
      grows = told.faults_grow;
      failed = told.failed;
    }
