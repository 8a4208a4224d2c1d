use Rattle.std.proofs.Common.{◌≡◌, ◌∙◌, ◌%◌, length, sym, true, false, rules}
use Rattle.tinyvec_slots.proofs.ComparingLemmas.{pointwise_front, pointwise_rest}
use Rattle.tinyvec_slots.proofs.tuned.comparing.same_by_4.Goals as goal

pub returns-then-eq : goal.returns-then-eq
returns-then-eq g c =
    let same : c.eq.result ≡ true = search rules in
    c.same_blocks.ensures ∙ pointwise_rest g.T.PartialEq.eq (length c.args.a.now % 4) c.args.a.now c.args.b.now c.requires.as_long
    (search rules) (sym c.eq.ensures ∙ same)

pub returns-else-eq : goal.returns-else-eq
returns-else-eq g c =
    let differs : c.eq.result ≡ false = search rules in
    differs ∙ sym (pointwise_front g.T.PartialEq.eq (length c.args.a.now % 4) c.args.a.now c.args.b.now (search rules)
    c.requires.as_long (sym c.eq.ensures ∙ differs))
