use Rattle.tinyvec_examples.proofs.LargestLemmas.{all_kept, least_dropped}
use Rattle.tinyvec_examples.proofs.largest.keep.Goals as goal

pub returns-then-len-limit-clause-ascending : goal.returns-then-len-limit-clause-ascending
returns-then-len-limit-clause-ascending c =
    (least_dropped _ _ _ _ _ c.remove.result (rw c.as_slice.ensures at c.place-at.ensures) c.requires.ascending c.in_ok-insert.ensures.ok.items c.remove.ensures.value c.remove.ensures.becomes.items).0

pub returns-then-len-limit-clause-largest : goal.returns-then-len-limit-clause-largest
returns-then-len-limit-clause-largest c =
    (least_dropped _ _ _ _ _ c.remove.result (rw c.as_slice.ensures at c.place-at.ensures) c.requires.ascending c.in_ok-insert.ensures.ok.items c.remove.ensures.value c.remove.ensures.becomes.items).1

pub returns-then-len-limit-clause-floor : goal.returns-then-len-limit-clause-floor
returns-then-len-limit-clause-floor c = λ _.
    (least_dropped _ _ _ _ _ c.remove.result (rw c.as_slice.ensures at c.place-at.ensures) c.requires.ascending c.in_ok-insert.ensures.ok.items c.remove.ensures.value c.remove.ensures.becomes.items).2

pub returns-else-len-limit-clause-ascending : goal.returns-else-len-limit-clause-ascending
returns-else-len-limit-clause-ascending c =
    (all_kept _ _ _ _ (rw c.as_slice.ensures at c.place-at.ensures) c.requires.ascending c.in_ok-insert.ensures.ok.items).0

pub returns-else-len-limit-clause-largest : goal.returns-else-len-limit-clause-largest
returns-else-len-limit-clause-largest c =
    (all_kept _ _ _ _ (rw c.as_slice.ensures at c.place-at.ensures) c.requires.ascending c.in_ok-insert.ensures.ok.items).1
