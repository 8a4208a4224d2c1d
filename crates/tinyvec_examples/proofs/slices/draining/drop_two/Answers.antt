use Rattle.std.proofs.Common.{rules, ◌≡◌, ◌+◌, pos, length}
use Rattle.std.proofs.lemmas.List.{places}
use Rattle.tinyvec_slots.proofs.SlotsLemmas.{freed}
use Rattle.tinyvec_array.specs.SliceVec.{slice_view, slice_items}
use Rattle.tinyvec_array.specs.ViewLaws.{freed_by}
use Rattle.tinyvec_examples.proofs.slices.draining.drop_two.Goals as goal

pub returns-clause-spare : goal.returns-clause-spare
returns-clause-spare c =
    let v = c.args.v.now in
    let fewer : length (slice_items v) ≡ length (slice_items c.drain_each.new.self) + 2 = search (rules, places) in
    freed _ (pos 0) (λ x h. h) 2 (slice_view v) (slice_view c.drain_each.new.self) (freed_by (λ x. x ≡ pos 0) _ _ _ _ 2 fewer (c.drain_each.ensures.becomes.slot_rule))
