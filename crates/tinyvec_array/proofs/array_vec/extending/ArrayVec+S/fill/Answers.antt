use Rattle.std.proofs.Common.{◌≡◌, ◌-◌, length, subst, arith}
use Rattle.tinyvec_slots.specs.Filling.{YieldsUpTo}
use Rattle.tinyvec_slots.proofs.FillingLemmas.{fills_by}
use Rattle.tinyvec_array.specs.ArrayVec.{slots_of}
use Rattle.tinyvec_array.specs.View.{view}
use Rattle.tinyvec_array.proofs.ViewLemmas.{parts_of}
use Rattle.tinyvec_array.proofs.array_vec.extending.ArrayVec+S.fill.Goals as goal

pub returns-clause-items : goal.returns-clause-items
returns-clause-items g c =
    let v = c.args.self.now in
    let (xs, got, run, _) = c.put_until_full.ensures.ran in
    let room : length (slots_of g.S.Slots v) - length (view g.S.Slots v).items ≡ length (view g.S.Slots v).spare = omega (arith, parts_of g.S.Slots v) in
    fills_by _ _ _ _ _ c.into_iter.result xs c.into_iter.ensures.into_iter_gives got.items _
    (subst (λ n. YieldsUpTo g.I.IntoIter.Iterator.next_gives n c.into_iter.result xs c.put_until_full.result) room run)
