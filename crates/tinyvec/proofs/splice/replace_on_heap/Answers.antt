use Rattle.std.proofs.Common.{rules, ◌∙◌}
use Rattle.tinyvec.proofs.ReplacingLemmas.{put_on_heap}
use Rattle.tinyvec.proofs.splice.replace_on_heap.Goals as goal

pub returns : goal.returns
returns g c =
    let old = c.args.heap.now in
    let listed = put_on_heap old.items c.args.new.now c.push_tail.new.heap.items c.as_mut_slice.result.now c.replace_within.new.items c.args.start c.args.end c.len-len.result _
    (c.len-len.ensures ∙ old.ok.0) c.push_tail.new.heap.ok.0 (search rules) (search rules) c.push_tail.ensures.items (search rules) c.replace_within.ensures in
    record { items = c.truncate.ensures.items ∙ listed; capacity = search rules }
