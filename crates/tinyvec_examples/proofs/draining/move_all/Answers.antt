use Rattle.std.proofs.Common.{◌≡◌, rules, subst, ◌++◌, ◌∷◌, [], length, sym, ap, ◌∙◌, arith, append_assoc, length-append}
use Rattle.std.proofs.Math.Seq.{drop-length}
use Rattle.tinyvec_array.specs.View.{view}
use Rattle.tinyvec_array.specs.DrainLaws.{drain_of, drain_kept_then}
use Rattle.tinyvec_slots.specs.Drain.{DrainKeeps, drain_items}
use Rattle.tinyvec_array.proofs.ViewLemmas.{parts_of, SameLender-then}
use Rattle.tinyvec_slots.proofs.DrainLemmas.{DrainKeeps-then}
use Rattle.tinyvec_examples.proofs.draining.move_all.Goals as goal

pub push-requires : goal.push-requires
push-requires g c =
    let inv = c.loop-x.invariant in
    let to = (view g.A.Slots c.loop-x.to).items in
    let all = ap length inv.moved ∙ length-append to (drain_items (drain_of g.A.Slots g.A.Item.Default.is_default) c.loop-x.x-iterator) in
    let more = ap length c.in-Some.ensures.steps.0 in
    let from_slots = g.met.A.Array.counted _ c.len.ensures.slot_count in
    let to_slots = g.met.A.Array.counted _ c.len-2.ensures.slot_count in
    omega (arith, all, more, from_slots, to_slots, inv.lender.slot_count, parts_of g.A.Slots c.loop-x.to, parts_of g.A.Slots c.args.from.now)

pub loop-x-preserved : goal.loop-x-preserved
loop-x-preserved g c =
    let inv = c.loop-x.invariant in
    let step = c.in-Some.ensures.steps in
    let to = (view g.A.Slots c.loop-x.to).items in
    let rest = drain_items (drain_of g.A.Slots g.A.Item.Default.is_default) c.next.new.self in record {
      can = step.1.ready inv.can;
      ends = tt;
      keeps = DrainKeeps-then (drain_of g.A.Slots g.A.Item.Default.is_default) (drain_kept_then g.A.Slots) c.into_iter-x-iterator.result c.loop-x.x-iterator c.next.new.self inv.keeps step.1;
      moved = inv.moved ∙ ap (λ l. to ++ l) step.0 ∙ sym (append_assoc to (c.in-Some.x ∷ []) rest) ∙ ap (λ l. l ++ rest) (sym c.push.ensures.items);
      lender = SameLender-then g.A.Slots c.args.to.now c.loop-x.to c.push.new.self inv.lender
          (record { same_reference = ap (λ p. p.lender) c.push.ensures.place; slot_count = ap (λ p. p.capacity) c.push.ensures.place });
    }

pub returns-clause-left : goal.returns-clause-left
returns-clause-left g c =
    let new = c.drop-x-iterator.new.self.0 in
    let keeps = subst (λ d. DrainKeeps (drain_of g.A.Slots g.A.Item.Default.is_default) d c.loop-x.x-iterator) c.into_iter-x-iterator.ensures.into_iter_gives c.loop-x.invariant.keeps in
    let lost = c.drain-x-items.ensures.begins.leaves new (keeps.leaves new (c.in-None.ensures.steps.1.leaves new c.drop-x-iterator.ensures)) in
    let same = c.in-None.ensures.steps.1.same_reference ∙ keeps.same_reference in
    let none : (view g.A.Slots new).items ≡ [] = lost.items ∙ drop-length (view g.A.Slots c.args.from.now).items in
    search rules
