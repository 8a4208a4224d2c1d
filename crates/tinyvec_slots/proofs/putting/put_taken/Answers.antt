use Rattle.std.proofs.Common.{◌+◌, ◌-◌, ◌≤◌, refl, length, take, subst, arith, zero-le, [], length-take-le}
use Rattle.tinyvec_slots.proofs.EmptiedLemmas.{emptied_none, emptied_len, emptied_further, emptied_all, moved_further, moved_all, rest_len}
use Rattle.tinyvec_slots.proofs.putting.put_taken.Goals as goal

pub loop-from-init : goal.loop-from-init
loop-from-init g c = record {
  within = zero-le;
  slots = refl;
  put = g.met.V.CanPut.puts_none c.args.vec.now;
  emptied = emptied_none g.V.Item.Default.is_default c.args.from.now;
}

pub loop-from-preserved : goal.loop-from-preserved
loop-from-preserved g c =
    let D = g.V.Item.Default.is_default in
    let at = c.loop-from in
    let inv = at.invariant in
    let old = c.args.from.now in
    let enough : 16 ≤ length at.from - at.done = c.loop-from-test.true in
    let fits : at.done + 16 ≤ length old = omega (arith, inv.within, inv.slots, enough) in
    let emptied = emptied_further D old at.from at.done inv.within inv.emptied c.put_block.new.from 16 enough c.put_block.ensures.left in
    let front = length-take-le at.done old inv.within in record {
      within = fits;
      slots = emptied_len D old _ (at.done + 16) fits emptied;
      put = subst (λ l. g.V.CanPut.Puts c.args.vec.now l c.put_block.new.vec) (moved_further D old at.from at.done inv.within inv.emptied [] (take at.done old) _ 16 refl refl)
          (c.put_block.ensures.put c.args.vec.now (take at.done old) inv.put (omega (arith, front, c.len-len.ensures.value)) (omega (arith, fits, c.len-len.ensures.value, c.requires)));
      emptied = emptied;
    }

pub put_each-requires : goal.put_each-requires
put_each-requires g c =
    let at = c.loop-from in
    let inv = at.invariant in
    let old = c.args.from.now in
    let D = g.V.Item.Default.is_default in
    let front = length-take-le at.done old inv.within in
    let rest = rest_len D old at.from at.done inv.within inv.emptied in
    let len = c.len-len.ensures.value in
    record { room = (c.args.vec.now, take at.done old, inv.put, omega (arith, front, len), omega (arith, rest, inv.slots, inv.within, len, c.requires), c.len-len.ensures.small) }

pub keep-requires : goal.keep-requires
keep-requires g c =
    let D = g.V.Item.Default.is_default in
    let at = c.loop-from in
    let inv = at.invariant in
    let old = c.args.from.now in
    let len = c.len-len.ensures.value in
    let left = rest_len D old at.from at.done inv.within inv.emptied in
    let put = c.put_each.ensures.put c.args.vec.now (take at.done old) inv.put (omega (arith, length-take-le at.done old inv.within, len)) (omega (arith, left, inv.slots, inv.within, len, c.requires)) in
    let whole = moved_all D old at.from at.done inv.within inv.emptied [] (take at.done old) _ refl refl in
    let long = (emptied_all D old at.from at.done inv.within inv.emptied c.put_each.new.from c.put_each.ensures.left).0 in
    (c.args.vec.now, old, subst (λ l. g.V.CanPut.Puts c.args.vec.now l c.put_each.new.vec) whole put, omega (arith, long, len), omega (arith, long, len, c.requires))

pub returns-clause-becomes : goal.returns-clause-becomes
returns-clause-becomes g c =
    let D = g.V.Item.Default.is_default in
    let at = c.loop-from in
    let inv = at.invariant in
    let old = c.args.from.now in
    let len = c.len-len.ensures.value in
    let left = rest_len D old at.from at.done inv.within inv.emptied in
    let put = c.put_each.ensures.put c.args.vec.now (take at.done old) inv.put (omega (arith, length-take-le at.done old inv.within, len)) (omega (arith, left, inv.slots, inv.within, len, c.requires)) in
    let whole = moved_all D old at.from at.done inv.within inv.emptied [] (take at.done old) _ refl refl in
    let long = (emptied_all D old at.from at.done inv.within inv.emptied c.put_each.new.from c.put_each.ensures.left).0 in
    c.keep.ensures c.args.vec.now old (subst (λ l. g.V.CanPut.Puts c.args.vec.now l c.put_each.new.vec) whole put) (omega (arith, long, len)) (omega (arith, long, len, c.requires))

pub returns-clause-left : goal.returns-clause-left
returns-clause-left g c =
    let at = c.loop-from in
    emptied_all g.V.Item.Default.is_default c.args.from.now at.from at.done at.invariant.within at.invariant.emptied c.put_each.new.from c.put_each.ensures.left
