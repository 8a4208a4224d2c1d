use Rattle.std.proofs.Common.{◌≤◌, ◌∙◌, ◌+◌, ◌*◌, ap, arith, rules, length, subst, sym}
use borrow.Rule.Slice.PartMut.{same_len_mid}
use Rattle.tinyvec_borsh.proofs.Blocks.{take-block}
use Rattle.tinyvec_borsh.proofs.NumberBlocks.{fit-put, next_within, spells-put}
use Rattle.tinyvec_borsh.proofs.numbers.number.encode.Goals as goal

pub loop-i-preserved : goal.loop-i-preserved
loop-i-preserved g c =
    let width = c.CAPACITY-width.result in
    let at = c.loop-i.i * width in
    let within : at + width ≤ length c.args.items.now * width = next_within c.loop-i.i (length c.args.items.now) width (omega arith) in
    let same = c.copy_from_slice.ensures.after ∙ c.as_slice.ensures.value ∙ c.to_bytes.ensures.bytes in
    let long = ap length c.copy_from_slice.ensures.after in
    let whole = ap length c.as_slice.ensures.value ∙ g.met.T.Bytes.Array.counted _ c.as_slice.ensures.counts in
    let put = take-block at (at + width) c.loop-i.room c.copy_from_slice.new.self (omega arith) (search rules) (omega (arith, long, whole, c.CAPACITY-width.ensures)) in
    record {
      spelled = spells-put g.T.FixedWidth.form.Spells g.T.FixedWidth.form.Fits width c.args.items.now c.loop-i.i c.index-items-i.result c.loop-i.room _ c.copy_from_slice.new.self (omega arith) (search rules) put c.loop-i.invariant.spelled
          (subst (g.T.FixedWidth.form.Spells c.index-items-i.result) (sym same) (g.T.FixedWidth.form.written c.index-items-i.result c.to_bytes.ensures.valid));
      fit = fit-put g.T.FixedWidth.form.Spells g.T.FixedWidth.form.Fits _ _ c.index-items-i.result (omega arith) (search rules) c.loop-i.invariant.fit c.to_bytes.ensures.valid;
      room = same_len_mid _ _ _ _ c.copy_from_slice.ensures.len ∙ c.loop-i.invariant.room;
    }
