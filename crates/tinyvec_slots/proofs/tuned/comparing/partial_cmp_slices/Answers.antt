use Rattle.tinyvec_slots.proofs.tuned.comparing.partial_cmp_slices.Goals as goal

pub returns-then-differ_at_once : goal.returns-then-differ_at_once
returns-then-differ_at_once g c = c.partial_order_at.ensures

pub returns : goal.returns
returns g c = c.partial_order_at-2.ensures
