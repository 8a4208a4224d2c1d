use Rattle.tinyvec.proofs.FrameLemmas.{inline_becomes, last_value}
use Rattle.tinyvec.proofs.tiny_vec.edits.TinyVec+A.pop.Goals as goal

pub returns-in-Inline-clause-becomes : goal.returns-in-Inline-clause-becomes
returns-in-Inline-clause-becomes g c = rw c.in-Inline.is (inline_becomes g.A.Slots g.A.Item.Default.is_default _ _ _ _ _ c.pop.ensures.becomes)

pub returns-in-Heap-clause-value : goal.returns-in-Heap-clause-value
returns-in-Heap-clause-value g c =
    let made = c.pop-in-Heap.ensures in
    rw c.in-Heap.is (last_value c.in-Heap.v.items _ c.pop-in-Heap.result c.in-Heap.v.ok.0 made.variant made.value)
