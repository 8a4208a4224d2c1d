use Rattle.tinyvec_array.proofs.array_vec.in_slice.ArrayVec+mut+slice+T.resize_with.Goals as goal

pub returns-clause-grown : goal.returns-clause-grown
returns-clause-grown g c longer = let h = c.resize_by_answers.ensures.grown longer in ((h.0.0, c.resize_by_answers.new.f, h.0.1, h.0.2), h.1)

pub returns-clause-cut : goal.returns-clause-cut
returns-clause-cut g c shorter =
    let h = c.resize_by_answers.ensures.cut shorter in
    (h.0, (h.1.0, (h.1.1.0, c.resize_by_answers.new.f, h.1.1.1, h.1.1.2), h.1.2, h.1.3))
