use Rattle.std.proofs.Common.{◌≡◌, ◌+◌, ◌-◌, length, refl, sym, arith}
use Rattle.std.specs.Fn.{FnOnceReturnsAtMut}
use Rattle.tinyvec_slots.proofs.PopLemmas.{pops_if-true, pops_if-false}
use Rattle.tinyvec_slots.proofs.filtering.ask_last.Goals as goal

pub returns-clause-goes : goal.returns-clause-goes
returns-clause-goes g c =
    let xs = c.args.items.now in
    let last : length xs - 1 + 1 ≡ length xs = omega (arith, c.if-len-eq0.false) in
    let asked : FnOnceReturnsAtMut g.F.FnOnce c.args.f c.index-items-len.result c.f.result c.f.new.arg2 = record { shown = _; shows = sym c.index-items-len.is; left = _; met = c.f.ensures; leaves = refl } in
    pops_if-true g.F.FnOnce c.args.f xs _ _ _ _ last c.index-items-len.is asked

pub returns-clause-stays : goal.returns-clause-stays
returns-clause-stays g c =
    let xs = c.args.items.now in
    let last : length xs - 1 + 1 ≡ length xs = omega (arith, c.if-len-eq0.false) in
    let asked : FnOnceReturnsAtMut g.F.FnOnce c.args.f c.index-items-len.result c.f.result c.f.new.arg2 = record { shown = _; shows = sym c.index-items-len.is; left = _; met = c.f.ensures; leaves = refl } in
    pops_if-false g.F.FnOnce c.args.f xs _ _ _ _ last c.index-items-len.is asked
