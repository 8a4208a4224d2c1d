use Rattle.std.proofs.Common.{◌∙◌, ◌++◌, length, take, drop, ap, sym, take_at}
use Rattle.tinyvec.proofs.FrameLemmas.{last_value}
use Rattle.tinyvec.proofs.tiny_vec.filters.TinyVec+A.pop_if.Goals as goal

pub returns-else-not-ask_last-clause-popped : goal.returns-else-not-ask_last-clause-popped
returns-else-not-ask_last-clause-popped g c =
    let v = c.in-Heap.v in
    let ws = c.ask_last.new.items in
    let shown = c.as_mut_slice.ensures.value in
    let long = c.ask_last.auto.items in
    let count = v.ok.0 ∙ sym (long ∙ ap length shown) in
    let whole = take_at ws (drop (length ws) v.items) v.len (sym count) in
    let goes = rw (← long) at c.ask_last.ensures.goes c.if-not-ask_last.false in
    let popped = last_value (take v.len (ws ++ drop (length ws) v.items)) v.len c.pop.result (count ∙ sym (ap length whole)) c.pop.ensures.variant c.pop.ensures.value in
    rw (c.in-Heap.is, c.pop.ensures.rest, popped, whole, count, ← shown) goes
