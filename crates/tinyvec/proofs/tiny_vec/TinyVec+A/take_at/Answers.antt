use Rattle.std.proofs.Common.{◌≡◌, length, set, ap, ◌∙◌, length-set}
use Rattle.tinyvec.proofs.TinyLemmas.{tiny_items-with, tiny_framed-with}
use Rattle.tinyvec.specs.TinyVec.{view}
use Rattle.tinyvec.proofs.tiny_vec.TinyVec+A.take_at.Goals as goal

pub returns-clause-after : goal.returns-clause-after
returns-clause-after g c =
    let v = c.args.self.now in
    let xs = c.as_mut_slice.result.now in
    let d = c.take.new.dest in
    let same = c.as_mut_slice.ensures.value in
    let long : length (set xs c.args.i d) ≡ length (view g.A.Slots v).items = length-set xs c.args.i d ∙ ap length same in
    (d, c.take.ensures.after, tiny_items-with g.A.Slots v (set xs c.args.i d) long ∙ ap (λ l. set l c.args.i d) same)

pub returns-clause-frame : goal.returns-clause-frame
returns-clause-frame g c =
    tiny_framed-with g.A.Slots c.args.self.now (set c.as_mut_slice.result.now c.args.i c.take.new.dest) (length-set c.as_mut_slice.result.now c.args.i c.take.new.dest ∙ ap length c.as_mut_slice.ensures.value)
