use Rattle.std.proofs.Common.{drop, set, ap, ◌∙◌, rules}
use Rattle.std.proofs.lemmas.List.{drop-set-lt, places}
use Rattle.tinyvec_array.proofs.ViewLemmas.{items_of-set}
use Rattle.tinyvec_examples.proofs.lending.set.Goals as goal

pub returns-clause-items : goal.returns-clause-items
returns-clause-items g c = items_of-set g.S.Slots c.args.v.now c.args.i c.args.x c.requires

pub returns-clause-spare : goal.returns-clause-spare
returns-clause-spare g c =
    let v = c.args.v.now in
    let slots = g.S.Slots.slots v.slots in
    ap (drop (g.S.Slots.count v.len)) (g.S.Slots.slots_written v.slots (set slots c.args.i c.args.x))
    ∙ drop-set-lt (g.S.Slots.count v.len) slots c.args.i c.args.x (search (rules, c.requires, places))
