use Rattle.std.proofs.Common.{rules}
use Rattle.tinyvec_array.proofs.ViewLemmas.{replaced_cut, replaced_grown}
use Rattle.tinyvec_array.proofs.array_vec.edits.ArrayVec+S.replace_fitting.Goals as goal

pub returns-then-new_len-len : goal.returns-then-new_len-len
returns-then-new_len-len g c =
    replaced_cut g.S.Slots g.S.Item.Default.is_default c.args.self.now c.len-len.result c.len-len.ensures.value c.args.start c.args.end c.args.new.now c.replace_within.new.items
    (search rules) (search rules) (search rules) (rw c.as_slice_mut.ensures.value at c.replace_within.ensures) c.truncate.new.self c.if-new_len-len.true c.truncate.ensures

pub returns : goal.returns
returns g c =
    replaced_grown g.S.Slots g.S.Item.Default.is_default c.args.self.now c.len-len.result c.len-len.ensures.value c.args.start c.args.end c.args.new.now c.replace_within.new.items
    (search rules) (search rules) (search rules) (rw c.as_slice_mut.ensures.value at c.replace_within.ensures) c.to_len.result c.to_len.ensures.number c.if-new_len-len.false
