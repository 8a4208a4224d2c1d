use Rattle.std.proofs.Common.{◌≡◌, ◌+◌, ◌<◌, ◌≤◌, length, refl, sym, ap, ◌∙◌, arith, vec_capacity}
use Rattle.tinyvec.proofs.ExtendingLemmas.{inline_clones, heap_clones, extended_in_room, extended_grown, extended_refused}
use Rattle.tinyvec.proofs.tiny_vec.extending.TinyVec+A.extend_from_slice.Goals.{In_default, in_default-via-in-Inline+else-other-capacity, in_default-via-in-Heap+else-other-capacity-2}
use Rattle.tinyvec.specs.TinyVec.{view}
use Rattle.tinyvec.proofs.PlaceLemmas.{heap_grown, heap_enough}
use Rattle.tinyvec_array.specs.ArrayVec.{slots_of, view_of}
use Rattle.tinyvec_array.specs.View.{view as slots_view}
use Rattle.tinyvec.proofs.tiny_vec.extending.TinyVec+A.extend_from_slice.Goals as goal

pub extend_from_slice-requires : goal.extend_from_slice-requires
extend_from_slice-requires g c = record { room = omega (arith, c.if-other-capacity.true, c.capacity.ensures.parts, c.len.ensures.value) }

pub returns-in-Inline : goal.returns-in-Inline
returns-in-Inline g c =
    let v = c.in-Inline.v in
    let room : length (slots_view g.A.Slots v).items + length c.args.other.now ≤ length (slots_of g.A.Slots v) =
    omega (arith, c.if-other-capacity.true, c.capacity.ensures, c.len.ensures.value) in
    rw c.in-Inline.is
    (let made = extended_in_room g.A.Item.Default.is_default g.A.Item.Clone _ _ _ _
    (inline_clones g.A.Item.Clone _ _ (view_of g.A.Slots v) (view_of g.A.Slots c.extend_from_slice.new.self) c.extend_from_slice.ensures.clones c.extend_from_slice.ensures.lender.slot_count) room in
    record { clones = made.clones; ok = made.ok; succeeds = made.succeeds; refused = made.refused })

pub push_clones-requires : goal.push_clones-requires
push_clones-requires g c = record { room = omega arith }

pub returns-in-Heap : goal.returns-in-Heap
returns-in-Heap g c =
    let v = c.in-Heap.v in
    let room : length v.items + length c.args.other.now ≤ vec_capacity v = omega (arith, v.ok.0, v.ok.1) in
    rw c.in-Heap.is
    (let made = extended_in_room g.A.Item.Default.is_default g.A.Item.Clone _ _ _ _
    (heap_clones g.A.Item.Clone _ _ v c.push_clones.new.heap c.push_clones.ensures) room in
    record { clones = made.clones; ok = made.ok; succeeds = made.succeeds; refused = made.refused })

-- a list that had no room is as it was before it grows
abbrev Before : (g : _) → In_default g → Type 0
Before g c = (c.in_default.self ≡ c.args.self.now) × ((view g.A.Slots c.args.self.now).place.capacity < length (view g.A.Slots c.args.self.now).items + length c.args.other.now)

before : (g : _) (c : In_default g) → Before g c
before g c = elim c.in_default.branch as (λ _. Before g c) [
  | in_default-via-in-Inline+else-other-capacity w ↦ (
    w.self-is ∙ sym w.in-Inline.is,
    rw w.in-Inline.is (omega (arith, w.capacity.ensures, w.len.ensures.value)),
  )
  | in_default-via-in-Heap+else-other-capacity-2 w ↦ (
    w.self-is ∙ sym w.in-Heap.is,
    rw w.in-Heap.is (omega (arith, w.in-Heap.v.ok.0, w.in-Heap.v.ok.1)),
  )
]

pub grow-requires : goal.grow-requires
grow-requires g c =
    let known = before g (goal.at.grow-requires g c).In_default in
    λ _. rw known.0 known.1

pub returns-in_err-grow-in_default : goal.returns-in_err-grow-in_default
returns-in_err-grow-in_default g c =
    let known = before g (goal.at.returns-in_err-grow-in_default g c).In_default in
    let made = extended_refused g.A.Item.Default.is_default g.A.Item.Clone _ _ (view g.A.Slots c.args.self.now) _ _ refl c.from_residual.ensures.0 known.1
    (rw known.0 at c.in_err-grow-in_default.ensures.moves.refused) in
    record { clones = made.clones; ok = made.ok; succeeds = made.succeeds; refused = made.refused }

pub extend_reserved-requires : goal.extend_reserved-requires
extend_reserved-requires g c = record { room = omega (arith, ap length c.in_ok-grow-in_default.ensures.moves.ok.items, ap (λ p. p.capacity) c.in_ok-grow-in_default.ensures.moves.ok.place, heap_enough (length (view g.A.Slots c.in_default.self).items + length c.args.other.now) (view g.A.Slots c.in_default.self).place) }

-- what grew has room
pub returns-in_ok-grow-in_default : goal.returns-in_ok-grow-in_default
returns-in_ok-grow-in_default g c =
    let known = before g (goal.at.returns-in_ok-grow-in_default g c).In_default in
    let told = c.in_ok-grow-in_default.ensures in
    let moved = rw known.0 at told.moves.ok in
    let stays = rw known.0 at told.stays in
    let made = extended_grown g.A.Item.Default.is_default g.A.Item.Clone _ _ (view g.A.Slots c.args.self.now) _ _ _ refl
    moved.items (λ i. ap (view g.A.Slots) (stays i)) (moved.place ∙ heap_grown _ (view g.A.Slots c.args.self.now).place known.1) c.extend_reserved.ensures in
    record { clones = made.clones; ok = made.ok; succeeds = made.succeeds; refused = made.refused }
