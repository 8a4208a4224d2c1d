use Rattle.std.proofs.Common.{◌≡◌, ◌+◌, ◌∙◌, sym, arith}
use Rattle.std.proofs.lemmas.Grind.{common_steps}
use Rattle.tinyvec_slots.proofs.TurnLemmas.{turned, turned_step, turned_after, borders_after}
use Rattle.tinyvec_slots.proofs.touches.Touches.rotate.Goals as goal

pub loop-i-preserved : goal.loop-i-preserved
loop-i-preserved g c =
    let outer = c.loop-first in
    let turn = c.loop-i in
    let inv = outer.invariant in
    let held = turn.invariant in
    let long = c.swap.auto.slots in
    let step = turned_step turn.slots c.swap.new.slots (outer.first + turn.i) outer.middle (outer.next + turn.i)
    (omega arith) (omega (arith, inv.behind)) (omega (arith, held.len, inv.len)) long c.swap.ensures.by_index in
    let first : outer.first + (turn.i + 1) ≡ outer.first + turn.i + 1 = omega arith in
    let next : outer.next + (turn.i + 1) ≡ outer.next + turn.i + 1 = omega arith in
    record {
      count = c.swap.ensures.count ∙ omega (arith, held.count);
      len = long ∙ held.len;
      turns = rw (first, next) (step ∙ held.turns);
    }

pub loop-first-preserved : goal.loop-first-preserved
loop-first-preserved g c =
    let turn = c.loop-first in
    let inv = turn.invariant in
    let swapped = c.loop-i.invariant in
    let xs = c.loop-i.slots in
    let pairs = c.min-pairs.result in
    let all : c.loop-i.i ≡ pairs = omega arith in
    let split = c.after_swap.ensures in
    let first = turn.first + pairs in
    let middle = turn.middle in
    let next = turn.next + pairs in
    let a = c.after_swap.result.0 in
    let b = c.after_swap.result.1 in
    let after = turned_after xs first middle next a b (omega arith) (omega (arith, inv.behind)) (omega (arith, swapped.len)) split.last_ran_out split.first_ran_out split.none_ran_out in
    let borders = borders_after xs first middle next a b (omega arith) (omega (arith, inv.behind)) (omega (arith, swapped.len)) split.last_ran_out split.first_ran_out split.none_ran_out in
    let in_pairs : turned xs first middle next ≡ turned turn.slots turn.first middle turn.next = rw (sym all) swapped.turns in
    record {
      count = swapped.count ∙ omega (arith, all, inv.count, inv.started);
      len = swapped.len ∙ inv.len;
      started = omega (arith, inv.started);
      in_order = borders.0;
      behind = borders.1;
      in_bounds = borders.2;
      last_ran_out = borders.3;
      first_ran_out = borders.4;
      turns = after ∙ in_pairs ∙ inv.turns;
    }

pub returns-clause-after : goal.returns-clause-after
returns-clause-after g c = grind (arith, common_steps)
