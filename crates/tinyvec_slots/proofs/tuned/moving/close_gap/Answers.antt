use Rattle.std.proofs.Common.{◌+◌, ◌-◌, length, ◌∙◌, arith}
use Rattle.std.proofs.lemmas.List.{take_rest}
use Rattle.tinyvec_slots.proofs.Lists.{closed_by_ends, take-range_moved, remove_range_within}
use Rattle.tinyvec_slots.proofs.tuned.moving.close_gap.Goals as goal

pub returns-then-behind-gap : goal.returns-then-behind-gap
returns-then-behind-gap g c =
    let xs = c.args.items.now in
    let i = c.min-start.result in
    let n = c.min-gap.result in
    record {
      kept = closed_by_ends xs _ c.swap_ends.new.items _ i n (length xs - i - n) (omega arith) (take_rest xs i) c.swap_ends.ensures
          ∙ remove_range_within xs c.args.start c.args.gap i n c.min-start.ensures c.min-gap.ensures;
    }

pub returns : goal.returns
returns g c =
    let xs = c.args.items.now in
    let i = c.min-start.result in
    let n = c.min-gap.result in
    record {
      kept = take-range_moved xs i (i + n) (omega arith) (omega arith) c.move_to_end.new.items c.move_to_end.ensures (length xs - n) (omega arith)
          ∙ remove_range_within xs c.args.start c.args.gap i n c.min-start.ensures c.min-gap.ensures;
    }
