use Rattle.std.proofs.Common.{◌+◌, ◌-◌, ◌≤◌, Result, Ok, Err, OnOk, IsOk, true≢false, sym, length, take, drop, arith, length-take-le, length-drop}
use Rattle.tinyvec_array.specs.ArrayVec.{slots_of}
use Rattle.tinyvec_array.specs.View.{view}
use Rattle.tinyvec.proofs.FrameLemmas.{inline_becomes, heap_becomes}
use Rattle.tinyvec.proofs.splice.TinyVec+A.replace_reserved.Goals as goal

-- of a call that succeeds
on_ok : {X E P : Type 0} (r : Result X E) → IsOk r → OnOk r P → P
on_ok (Ok x) ok h = h
on_ok (Err e) ok h = absurd (true≢false (sym ok))

pub returns-in-Inline : goal.returns-in-Inline
returns-in-Inline g c =
    let G = g.A.Slots in
    let v = c.in-Inline.v in
    let xs = (view G v).items in
    let part = c.args.part in
    let made = c.replace_range-fits.ensures in
    let inside : part.end ≤ length xs = rw c.in-Inline.is at c.requires.in_list in
    let room : length xs - (part.end - part.start) + length c.args.replacement.now ≤ length (slots_of G v) = rw c.in-Inline.is at c.requires.room in
    let le = c.requires.start_le_end in
    let fits : length (take part.start xs) + length c.args.replacement.now + length (drop part.end xs) ≤ length (slots_of G v) =
    omega (arith, le, inside, room, length-take-le part.start xs (omega (arith, le, inside)), length-drop part.end xs) in
    rw c.in-Inline.is (inline_becomes G g.A.Item.Default.is_default v c.replace_range-fits.new.self _ _ _
    (record { items = on_ok c.replace_range-fits.result (made.variant.1 fits) made.items; place = made.changes.place; slot_rule = made.changes.slot_rule; fits = made.changes.fits }))

pub returns-in-Heap : goal.returns-in-Heap
returns-in-Heap g c = rw c.in-Heap.is (heap_becomes g.A.Item.Default.is_default c.in-Heap.v c.replace_on_heap.new.heap _ c.replace_on_heap.ensures.items c.replace_on_heap.ensures.capacity)
