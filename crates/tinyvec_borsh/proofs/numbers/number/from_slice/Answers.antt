use Rattle.std.proofs.Common.{◌≡◌, ◌∙◌, ap, subst, sym, arith}
use Rattle.std.specs.Int.{from_le_bytes}
use Rattle.tinyvec_borsh.proofs.NumberBlocks.{small_bytes}
use Rattle.tinyvec_borsh.proofs.numbers.number.from_slice.Goals as goal

pub returns : goal.returns
returns g c =
    let is : c.from_bytes.result ≡ g.T.FixedWidth.form.of_bits (from_le_bytes g.T.FixedWidth.form.width c.args.spelling.now) =
    c.from_bytes.ensures ∙ ap (λ l. g.T.FixedWidth.form.of_bits (from_le_bytes g.T.FixedWidth.form.width l)) (g.T.Bytes.Slots.slots_written _ c.copy_from_slice.new.self ∙ c.copy_from_slice.ensures.after) in
    let read = g.T.FixedWidth.form.read c.args.spelling.now (c.requires ∙ g.met.T.FixedWidth.sized) (small_bytes c.args.spelling.now (λ i. omega (arith, c.type_inv.spelling i))) in
    record {
      spelled = subst (λ n. g.T.FixedWidth.form.Spells n c.args.spelling.now) (sym is) read.0;
      valid = subst g.T.FixedWidth.form.Fits (sym is) read.1;
    }
