use Rattle.std.proofs.Common.{◌≡◌, ◌∷◌, [], take, drop, rules, refl, ◌∙◌}
use Rattle.tinyvec_array.specs.SliceVec.{slice_items, slice_spare, slice_slots}
use Rattle.tinyvec_array.proofs.AppendsLemmas.{owner_sees_appended}
use Rattle.tinyvec_examples.proofs.slices.split.halves.Goals as goal

pub returns : goal.returns
returns c =
    let old = c.args.slots.now in
    let none : slice_items c.from_slice_len-first.result ≡ [] = c.from_slice_len-first.ensures.items ∙ refl in
    let all : slice_spare c.from_slice_len-first.result ≡ take c.args.at old = search rules in
    let none-2 : slice_items c.from_slice_len-second.result ≡ [] = c.from_slice_len-second.ensures.items ∙ refl in
    let all-2 : slice_spare c.from_slice_len-second.result ≡ drop c.args.at old = search rules in
    let one : slice_slots c.put.new.v ≡ 1 ∷ drop 1 (take c.args.at old) = owner_sees_appended (1 ∷ []) (take c.args.at old) c.from_slice_len-first.result c.put.new.v none all c.put.ensures in
    let two : slice_slots c.put-2.new.v ≡ 2 ∷ drop 1 (drop c.args.at old) = owner_sees_appended (2 ∷ []) (drop c.args.at old) c.from_slice_len-second.result c.put-2.new.v none-2 all-2 c.put-2.ensures in
    search rules
