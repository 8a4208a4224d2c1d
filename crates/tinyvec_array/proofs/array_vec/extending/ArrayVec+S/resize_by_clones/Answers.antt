use Rattle.std.proofs.Common.{length, length-take-le, refl, ap, ◌∙◌, arith}
use Rattle.tinyvec_array.specs.View.{view}
use Rattle.tinyvec_array.proofs.array_vec.extending.ArrayVec+S.resize_by_clones.Goals as goal

pub returns-in-Ok-clause-cut : goal.returns-in-Ok-clause-cut
returns-in-Ok-clause-cut g c = λ _.
    let h = c.in-Ok.ensures.cut in
    record { items = h.items; spare = h.spare; if_clones_equal = h.if_clones_equal; refused = tt; succeeds = λ _. refl }

pub returns-in-Ok-clause-len : goal.returns-in-Ok-clause-len
returns-in-Ok-clause-len g c =
    let shorter = c.if-new_len-len.true in
    ap length c.in-Ok.ensures.cut.items ∙ length-take-le c.args.new_len (view g.S.Slots c.args.self.now).items (omega (arith, c.len-len.ensures.value, shorter))

pub returns-in-Err-clause-cut : goal.returns-in-Err-clause-cut
returns-in-Err-clause-cut g c = λ _.
    let h = c.in-Err.ensures.cut in
    record { items = tt; spare = tt; if_clones_equal = tt; refused = h.refused; succeeds = h.succeeds }

pub returns-in-Ok-grow_by_clones-clause-grown : goal.returns-in-Ok-grow_by_clones-clause-grown
returns-in-Ok-grow_by_clones-clause-grown g c = λ _.
    let h = c.in-Ok-grow_by_clones.ensures.grown in
    record { items = h.items; len = h.len; if_clones_equal = h.if_clones_equal; spare = h.spare; kept = tt; refused = tt; succeeds = λ _. refl }

pub returns-in-Err-grow_by_clones-clause-grown : goal.returns-in-Err-grow_by_clones-clause-grown
returns-in-Err-grow_by_clones-clause-grown g c = λ _.
    let h = c.in-Err-grow_by_clones.ensures.grown in
    record { items = tt; len = tt; if_clones_equal = tt; spare = tt; kept = h.kept; refused = h.refused; succeeds = h.succeeds }
