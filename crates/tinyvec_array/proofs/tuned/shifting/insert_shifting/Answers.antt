use Rattle.std.proofs.Common.{◌≡◌, ◌+◌, ◌++◌, ◌∷◌, [], rules, insert, take}
use Rattle.tinyvec_slots.proofs.Lists.{insert_over}
use Rattle.tinyvec_array.proofs.tuned.shifting.insert_shifting.Goals as goal

pub returns : goal.returns
returns g c =
    let xs = c.args.slots.now in
    let n = c.args.len in
    let end : c.min-end.result ≡ n + 1 = search rules in
    let put : c.shift_up.new.items ++ c.shift_up.result ∷ [] ≡ insert (take (n + 1) xs) c.args.index c.args.x = rw end at c.shift_up.ensures in
    rw (insert_over xs c.shift_up.new.items c.args.index n c.args.x c.shift_up.result c.requires.in_list c.requires.room put, end)
