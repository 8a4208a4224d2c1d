use Rattle.std.proofs.Common.{◌∙◌, ◌+◌, ◌≤◌, Some, None, ℕ, length, sym, ap, arith, append-nil, true≢false, length-set, drop-set-lt, refl}
use Rattle.std.proofs.lemmas.List.{take_more_set, take-set-le}
use Rattle.tinyvec_slots.proofs.SpliceLemmas.{ready_next, same_most, one_most}
use Rattle.tinyvec_slots.proofs.Lists.{slice_range_first}
use Rattle.tinyvec_slots.proofs.Fused.{not_ended}
use Rattle.tinyvec_slots.proofs.gap.Gap.take_first.Goals as goal

next_most : (m n : ℕ) → m ≤ n → m ≤ n + 1
next_most m n most = omega arith

pub returns-in-Some-clause-gives : goal.returns-in-Some-clause-gives
returns-in-Some-clause-gives g c =
    let s = c.args.self.now in
    let xs = c.args.slots.now in
    let ready = c.requires.ready in
    let asked = rw c.in-Some.is at c.next.ensures.steps in
    let no_gap = (ready.no_slot_besides (not_ended g.I.Iterator.next_gives _ _ _ asked)).0 in
    let is = c.replace.ensures.after in record {
      left = rw is (slice_range_first xs s.next s.end _ _ (omega arith) (omega (arith, ready.end_le_back, ready.back_le_len)) c.replace.ensures.value);
      placed = Some c.in-Some.new;
      asked = asked;
      front = rw (is, no_gap) (take_more_set xs s.next c.in-Some.new (omega (arith, ready.end_le_back, ready.back_le_len)));
      back = rw is (drop-set-lt s.back xs s.next c.in-Some.new (omega (arith, ready.end_le_back)));
      touches = c.replace.ensures.count ∙ omega arith;
    }

pub returns-in-None-clause-gives : goal.returns-in-None-clause-gives
returns-in-None-clause-gives g c =
    let s = c.args.self.now in
    let xs = c.args.slots.now in
    let ready = c.requires.ready in
    let d = c.take.ensures.after.0 in
    let is = c.take.ensures.after.2 in record {
      left = rw is (slice_range_first xs s.next s.end _ _ (omega arith) (omega (arith, ready.end_le_back, ready.back_le_len)) c.take.ensures.value);
      placed = None;
      asked = rw c.in-None.is at c.next.ensures.steps;
      front = rw is (take-set-le s.front xs s.next d ready.front_le_next ∙ sym (append-nil _));
      back = rw is (drop-set-lt s.back xs s.next d (omega (arith, ready.end_le_back)));
      touches = c.take.ensures.count ∙ omega arith;
    }

pub returns-in-None-clause-can : goal.returns-in-None-clause-can
returns-in-None-clause-can g c =
    let asked = rw c.in-None.is at c.next.ensures.steps in λ more. absurd (true≢false (sym asked.1 ∙ more))

pub returns-in-Some-clause-ready : goal.returns-in-Some-clause-ready
returns-in-Some-clause-ready g c =
    let ready = c.requires.ready in
    let long = ap length c.replace.ensures.after ∙ length-set c.args.slots.now c.args.self.now.next c.in-Some.new in
    let asked = rw c.in-Some.is at c.next.ensures.steps in
    let joined = ready.no_slot_besides (not_ended g.I.Iterator.next_gives _ _ _ asked) in
    ready_next c.args.self.now _ _ _ _ _ ready c.requires.left long (same_most _ _ c.replace.ensures.count) (λ _. (refl, joined.1)) refl refl refl (same_most _ _ refl)

pub returns-in-None-clause-ready : goal.returns-in-None-clause-ready
returns-in-None-clause-ready g c =
    let ready = c.requires.ready in
    let long = ap length c.take.ensures.after.2 ∙ length-set c.args.slots.now c.args.self.now.next c.take.ensures.after.0 in
    let asked = rw c.in-None.is at c.next.ensures.steps in
    ready_next c.args.self.now _ _ _ _ _ ready c.requires.left long (one_most _ _ c.take.ensures.count) (λ more. absurd (true≢false (sym asked.1 ∙ more)))
    refl refl refl (next_most _ _ ready.front_le_next)
