use Rattle.std.proofs.Common.{[], ◌∷◌, ◌+◌, length, pos, ap, ◌∙◌, arith, rules, length-take-le, length-drop}
use Rattle.tinyvec_slots.proofs.KnownItems.{array_yields}
use Rattle.tinyvec_slots.proofs.ReplacingLemmas.{between}
use Rattle.tinyvec_array.specs.ArrayVec.{items, all_slots}
use Rattle.tinyvec_examples.proofs.replacing.pair_put_in.Goals as goal

pub returns : goal.returns
returns c =
    let made = c.splice.ensures in
    let ends = c.finish-all_fit.ensures in
    let xs = items c.args.v.now in
    let pair = pos 7 ∷ pos 8 ∷ [] in
    let known = ends.known pair (made.unasked, array_yields pair _ made.replacement.0) in
    let front = ap length made.begins.front ∙ length-take-le c.args.at xs (omega (arith, c.requires)) in
    let back = ap length made.begins.back ∙ length-drop (c.args.at + 2) xs in
    let slots = ap (λ v. length (all_slots v)) made.slots ∙ c.len-len.ensures.slot_count in
    let fits = known.1 (omega (arith, front, back, c.requires, slots, c.len-len.ensures.value, c.len-len.ensures.fits, c.len-len.ensures.slot_count)) in
    let list = between _ _ pair _ _ _ fits.1 made.begins.front made.begins.back in
    let lender = made.same_reference in
    search rules
