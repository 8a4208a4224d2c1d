use Rattle.std.proofs.Common.{rules, ◌-◌, ◌≤◌, arith}
use Rattle.tinyvec_slots.proofs.Lists.{moved_down, moved_up}
use Rattle.tinyvec_slots.proofs.tuned.moving.move_by.Goals as goal

pub loop-done-preserved : goal.loop-done-preserved
loop-done-preserved g c = record {
  within = search rules;
  copied = moved_down c.args.items.now c.loop-done.items c.move_block-in-loop-done.new.items c.args.from c.args.to c.loop-done.done c.min-some.result
      (search rules) (search rules) c.loop-done.invariant.copied c.move_block-in-loop-done.ensures;
}

pub loop-left-preserved : goal.loop-left-preserved
loop-left-preserved g c =
    let at = c.loop-left in
    let some = c.min-some-in-loop-left.result in
    let few : some ≤ at.left = search rules in
    let within = at.invariant.within in
    record {
      within = omega (arith, within);
      copied = moved_up c.args.items.now at.items c.move_block-in-loop-left.new.items c.args.from c.args.to c.args.count at.left (at.left - some) some
          (omega (arith, few)) (search rules) (omega (arith, few, within)) c.requires.to_in_bounds at.invariant.copied c.move_block-in-loop-left.ensures;
    }
