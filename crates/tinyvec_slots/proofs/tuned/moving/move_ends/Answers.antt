use Rattle.std.proofs.Common.{◌-◌, ◌+◌, refl, rules}
use Rattle.tinyvec_slots.proofs.Lists.{written_front, moved_ends}
use Rattle.tinyvec_slots.proofs.tuned.moving.move_ends.Goals as goal

pub returns : goal.returns
returns g c =
    let xs = c.args.items.now in
    let n = g.row.N in
    let last = c.args.to + (c.args.count - n) in
    let front = written_front xs _ _ _ _ c.args.to n (search rules) (search rules) c.block_at-front.ensures c.write_front.ensures refl in
    let back = written_front _ _ _ _ _ last n (search rules) (search rules) c.block_at-back.ensures c.write_front-2.ensures refl in
    moved_ends xs _ _ c.args.from c.args.to c.args.count n c.requires.enough c.requires.no_gap c.requires.from_in_bounds c.requires.to_in_bounds front back
