use Rattle.std.proofs.Common.{◌≡◌, ◌+◌, ◌-◌, ◌∙◌, arith}
use Rattle.tinyvec_slots.proofs.BorderLemmas.{spare-put}
use Rattle.tinyvec_array.proofs.array_vec.ArrayVec+S.fill_spare_default.Goals as goal

pub returns-then-n-spare-clause-spare : goal.returns-then-n-spare-clause-spare
returns-then-n-spare-clause-spare g c = λ le.
    let v = c.args.self.now in
    let n = c.len-len.result in
    let from = n + c.args.start in
    let after = c.fill_default.ensures in
    let count : from + c.args.n - from ≡ c.args.n = omega arith in (
      after.0,
      (after.1.0 ∙ count, after.1.1),
      rw (g.S.Slots.slots_written, after.2, c.as_slice_mut.ensures.value) (spare-put (g.S.Slots.count v.len) (g.S.Slots.slots v.slots) n c.len-len.ensures.value after.0 c.args.start c.args.n (after.1.0 ∙ count) le),
    )
