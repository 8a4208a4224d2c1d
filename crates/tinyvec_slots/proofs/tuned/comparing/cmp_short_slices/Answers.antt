use Rattle.tinyvec_slots.proofs.tuned.comparing.cmp_short_slices.Goals as goal

pub returns-then-differ_at_once : goal.returns-then-differ_at_once
returns-then-differ_at_once g c = c.order_at.ensures

pub returns : goal.returns
returns g c = c.order_at-2.ensures
