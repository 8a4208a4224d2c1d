use Rattle.std.proofs.Common.{◌≡◌, ◌-◌, ◌∷◌, ◌++◌, pos, ap, ◌∙◌, arith, length, length-take, replicate, drop}
use Rattle.std.proofs.lemmas.List.Edits.{length-insert, length-remove}
use Rattle.tinyvec_array.specs.View.{NothingVacated}
use Rattle.tinyvec_array.specs.ViewLaws.{freed_by, used_by}
use Rattle.tinyvec_array.specs.SliceVec.{slice_items, slice_spare, slice_view}
use Rattle.tinyvec_slots.proofs.SlotsLemmas.{freed}
use Rattle.tinyvec_examples.proofs.slices.edits.edit.Goals as goal

pub returns-clause-spare : goal.returns-clause-spare
returns-clause-spare c =
    let v = c.args.v.now in
    let cut : length (slice_items c.truncate.new.self) ≡ 3 = omega (arith, ap length c.truncate.ensures.items, length-take 3 (slice_items v), c.requires) in
    let two : length (slice_items c.remove-second.new.self) ≡ 2 =
    omega (arith, cut, ap length c.remove-second.ensures.becomes.items, length-remove (slice_items c.truncate.new.self) 1 (omega (arith, cut))) in
    let three : length (slice_items c.insert.new.self) ≡ 3 = omega (arith, two, ap length c.insert.ensures.items, length-insert (slice_items c.remove-second.new.self) 1 (pos 8) (omega (arith, two))) in
    let first = freed _ (pos 0) (λ x h. h) (length (slice_items v) - 3) (slice_view v) (slice_view c.truncate.new.self)
    (freed_by (λ x. x ≡ pos 0) _ _ _ _ (length (slice_items v) - 3) (omega (arith, cut, c.requires)) (c.truncate.ensures.slot_rule)) ∙ ap (λ n. replicate (n - 3) (pos 0) ++ slice_spare v) c.requires in
    let second = freed _ (pos 0) (λ x h. h) 1 (slice_view c.truncate.new.self) (slice_view c.remove-second.new.self)
    (freed_by (λ x. x ≡ pos 0) _ _ _ _ 1 (omega (arith, cut, two)) (c.remove-second.ensures.becomes.slot_rule)) in
    used_by NothingVacated _ _ _ _ 1 (omega (arith, two, three)) (c.insert.ensures.slot_rule) ∙ ap (drop 1) (second ∙ ap (λ xs. pos 0 ∷ xs) first)
