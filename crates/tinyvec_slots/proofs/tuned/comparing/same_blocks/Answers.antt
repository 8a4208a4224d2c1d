use Rattle.std.proofs.Common.{◌≡◌, ◌∙◌, sym, true, length, ◌-◌, take_all, arith, rules}
use Rattle.std.specs.Cmp.Lexicographic.{pointwise}
use Rattle.tinyvec_slots.proofs.ComparingLemmas.{block_fits, blocks_behind, pointwise_more, pointwise_behind}
use Rattle.tinyvec_slots.proofs.tuned.comparing.same_blocks.Goals as goal

pub same_block-requires-clause-a_enough : goal.same_block-requires-clause-a_enough
same_block-requires-clause-a_enough g c =
    search (rules, block_fits g.row.N (length c.args.a.now - c.loop-next.next) c.loop-next.invariant.blocks (omega arith))

pub same_block-requires-clause-b_enough : goal.same_block-requires-clause-b_enough
same_block-requires-clause-b_enough g c =
    search (rules, block_fits g.row.N (length c.args.a.now - c.loop-next.next) c.loop-next.invariant.blocks (omega arith))

pub returns-then-not-same_block : goal.returns-then-not-same_block
returns-then-not-same_block g c =
    let more = block_fits g.row.N (length c.args.a.now - c.loop-next.next) c.loop-next.invariant.blocks (omega arith) in
    sym (pointwise_behind g.T.PartialEq.eq c.loop-next.next g.row.N c.args.a.now c.args.b.now c.requires.as_long
    c.loop-next.invariant.within more c.loop-next.invariant.same (sym c.same_block.ensures ∙ c.if-not-same_block.true))

pub overflow_add-next : goal.overflow_add-next
overflow_add-next g c =
    search (rules, block_fits g.row.N (length c.args.a.now - c.loop-next.next) c.loop-next.invariant.blocks (omega arith))

pub loop-next-preserved : goal.loop-next-preserved
loop-next-preserved g c =
    let h : c.same_block.result ≡ true = search rules in
    let fits = block_fits g.row.N (length c.args.a.now - c.loop-next.next) c.loop-next.invariant.blocks (omega arith) in
    record {
      within = omega (arith, fits);
      same = pointwise_more g.T.PartialEq.eq c.loop-next.next g.row.N c.args.a.now c.args.b.now c.requires.as_long
          c.loop-next.invariant.within c.loop-next.invariant.same (sym c.same_block.ensures ∙ h);
      blocks = blocks_behind g.row.N c.loop-next.next (length c.args.a.now) c.loop-next.invariant.blocks fits;
    }

pub returns : goal.returns
returns g c =
    let a = c.args.a.now in
    let b = c.args.b.now in
    let all : pointwise g.T.PartialEq.eq a b ≡ true =
    rw (take_all c.loop-next.next a (omega arith), take_all c.loop-next.next b (omega (arith, c.requires.as_long))) at c.loop-next.invariant.same in
    sym all
