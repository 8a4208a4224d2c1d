use Rattle.std.proofs.Common.{ℕ, All, IsTrue, inl, inr, subst, sym, arith}
use Rattle.std.specs.Char.{IsNotAsciiGraphic}
use Rattle.std.proofs.lemmas.List.{take_all}
use Rattle.std.proofs.lemmas.List.Elements.{All-get_or, All-more}
use Rattle.example_dns_query.specs.Name.{IsPrinted}
use Rattle.example_dns_query.proofs.query.are_printed.Goals as goal
use Rattle.example_dns_query.proofs.query.are_printed.Goals.{then-not-is_ascii_graphic, else-not-is_ascii_graphic}

out_of_range : (byte : ℕ) → IsNotAsciiGraphic byte → IsPrinted byte → ⊥
out_of_range byte (inl below) is = omega (arith, below, is.0)
out_of_range byte (inr above) is = omega (arith, above, is.1)

pub loop-byte-preserved : goal.loop-byte-preserved
loop-byte-preserved c =
    let name = c.args.name.now in
    let i = c.loop-byte.byte-index in
    elim c.if-not-is_ascii_graphic.branch [
      | then-not-is_ascii_graphic w ↦
          record {
            printed = λ are. let not = subst IsTrue w.are-is are in absurd cc;
            told = λ all. let one = All-get_or IsPrinted name i 0 c.loop-byte-test.true all in absurd (out_of_range _ w.if-not-is_ascii_graphic.ensures.cases one);
          }
      | else-not-is_ascii_graphic w ↦
          record {
            printed = λ are. All-more IsPrinted name i 0 c.loop-byte-test.true (c.loop-byte.invariant.printed (subst IsTrue w.are-is are)) w.if-not-is_ascii_graphic.ensures.cases;
            told = λ all. subst IsTrue (sym w.are-is) (c.loop-byte.invariant.told all);
          }
    ]

pub returns : goal.returns
returns c = (λ is. subst (All IsPrinted) (take_all c.loop-byte.byte-index c.args.name.now c.loop-byte-test.false) (c.loop-byte.invariant.printed is), c.loop-byte.invariant.told)
