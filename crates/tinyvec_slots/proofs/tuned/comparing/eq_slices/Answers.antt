use Rattle.std.proofs.Common.{◌≡◌, ◌∙◌, ◌%◌, length, sym, true, false, rules}
use Rattle.tinyvec_slots.proofs.ComparingLemmas.{pointwise_front, pointwise_rest}
use Rattle.tinyvec_slots.proofs.tuned.comparing.eq_slices.Goals as goal

pub returns-then-same_by_4 : goal.returns-then-same_by_4
returns-then-same_by_4 g c =
    let same : c.same_by_4.result ≡ true = search rules in
    c.same_blocks.ensures ∙ pointwise_rest g.T.PartialEq.eq (length c.args.a.now % 16) c.args.a.now c.args.b.now (search rules)
    (search rules) (sym c.same_by_4.ensures ∙ same)

pub returns-else-same_by_4 : goal.returns-else-same_by_4
returns-else-same_by_4 g c =
    let differs : c.same_by_4.result ≡ false = search rules in
    differs ∙ sym (pointwise_front g.T.PartialEq.eq (length c.args.a.now % 16) c.args.a.now c.args.b.now (search rules)
    (search rules) (sym c.same_by_4.ensures ∙ differs))

pub returns-then-are_large : goal.returns-then-are_large
returns-then-are_large g c = c.eq.ensures
