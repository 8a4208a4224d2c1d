use Rattle.std.proofs.Common.{◌≡◌, ◌+◌, ◌-◌, ◌≤◌, ◌++◌, ◌∙◌, ℕ, List, length, take, drop, ap, arith, length-append, length-drop, length-take-le}
use Rattle.tinyvec_slots.proofs.splice.splice_stop.Goals as goal

closed_len : {T : Type 0} (xs : List T) (front back : ℕ) → front ≤ back → back ≤ length xs → length xs ≡ length (take front xs ++ drop back xs) + (back - front)
closed_len xs front back order within = rw (length-append, length-take-le front xs (omega arith), length-drop back xs) (omega arith)

pub returns-clause-items : goal.returns-clause-items
returns-clause-items g c =
    let shown = c.as_mut_slice.ensures.value in
    let written = g.met.V.CanCut.written c.args.vec.now c.close-keep.new.slots (c.close-keep.auto.slots ∙ ap length shown) in
    c.cut_emptied.ensures.items ∙ ap (take c.close-keep.result) written.0 ∙ (rw shown at c.close-keep.ensures.kept)

pub returns-clause-len : goal.returns-clause-len
returns-clause-len g c =
    let xs = g.V.CanCut.items c.args.vec.now in
    let shown = c.as_mut_slice.ensures.value in
    let written = g.met.V.CanCut.written c.args.vec.now c.close-keep.new.slots (c.close-keep.auto.slots ∙ ap length shown) in
    rw (c.cut_emptied.ensures.items, written.0, c.close-keep.ensures.kept, shown) (closed_len xs c.args.gap.now.front c.args.gap.now.back c.requires.in_bounds.0 c.requires.in_bounds.1)

pub returns-clause-touches : goal.returns-clause-touches
returns-clause-touches g c = λ is. (rw c.as_mut_slice.ensures.value at c.close-keep.ensures.touches) (c.is_counted.ensures ∙ is)

pub cut_emptied-requires-clause-in_list : goal.cut_emptied-requires-clause-in_list
cut_emptied-requires-clause-in_list g c =
    let shown = c.as_mut_slice.ensures.value in
    let written = g.met.V.CanCut.written c.args.vec.now c.close-keep.new.slots (c.close-keep.auto.slots ∙ ap length shown) in
    rw written.0 (let len = c.close-keep.ensures.len in let same = c.close-keep.auto.slots in omega (arith, len, same))

pub cut_emptied-requires-clause-emptied : goal.cut_emptied-requires-clause-emptied
cut_emptied-requires-clause-emptied g c = λ is.
    let shown = c.as_mut_slice.ensures.value in
    let written = g.met.V.CanCut.written c.args.vec.now c.close-keep.new.slots (c.close-keep.auto.slots ∙ ap length shown) in
    rw written.0 (c.close-keep.ensures.emptied (c.is_counted.ensures ∙ is))
