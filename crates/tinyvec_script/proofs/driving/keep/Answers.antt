use Rattle.std.proofs.Common.{◌≡◌, ◌∷◌, [], Global, ap, ◌∙◌, arith, rules, length, length-append}
use Rattle.std.specs.Vec.Iter.{into_iter_items}
use Rattle.tinyvec_slots.specs.Fused.{fused_rest}
use Rattle.tinyvec_slots.proofs.Fused.{fused_ends}
use Rattle.tinyvec_script.proofs.DrivingLemmas.{into_iter_ends}
use Rattle.tinyvec_script.proofs.driving.keep.Goals as goal

pub push_reserved-requires-in-loop-item : goal.push_reserved-requires-in-loop-item
push_reserved-requires-in-loop-item g c =
    let turn = c.loop-item in
    let began = c.push_reserved in
    let rest = c.into_iter-item-iterator.result in
    let pushed = ap length began.ensures.items ∙ length-append c.args.list.now.items (c.args.refused.item ∷ []) in
    let from : rest ≡ c.args.refused.rest = search rules in
    let left = ap (λ it. length (fused_rest into_iter_items it)) from in
    let whole = ap length turn.invariant.kept in
    let now = length-append turn.list.items (fused_rest into_iter_items turn.item-iterator) in
    let then = length-append began.new.self.items (fused_rest into_iter_items rest) in
    let some = rw c.in-Some.is at ((fused_ends _ _ _ (into_iter_ends {X = g.row.T.Denot} {Z = Global})).first turn.item-iterator c.next.result c.next.new.self c.next.ensures.steps) in
    omega (arith, c.requires, pushed, left, whole, now, then, ap length some, began.ensures.capacity, turn.invariant.room, turn.list.ok.0, c.args.list.now.ok.0)
