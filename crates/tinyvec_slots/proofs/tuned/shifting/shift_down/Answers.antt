use Rattle.std.proofs.Common.{◌≡◌, ◌<◌, ◌≤◌, ◌+◌, ◌-◌, ◌∙◌, sym, ap, arith, rules, get_or, set, insert, remove, length, length-set, ◌++◌, ◌∷◌, []}
use Rattle.std.proofs.lemmas.List.{places}
use Rattle.std.proofs.lemmas.List.Edits.{remove-append_left}
use Rattle.tinyvec_slots.proofs.Lists.{insert_shifted_down, insert_taken, insert_removed}
use Rattle.tinyvec_slots.proofs.tuned.shifting.shift_down.Goals as goal

pub loop-i-preserved : goal.loop-i-preserved
loop-i-preserved g c =
    let inv = c.loop-i.invariant in
    let items = c.loop-i.items in
    let i = c.loop-i.i in
    let y = c.replace-held.result in
    let x = c.replace-held.new.dest in
    let is : y ≡ get_or items (i - 1) y = search rules in
    let lt : i - 1 < length items = search rules in
    let back : i - 1 + 1 ≡ i = search rules in
    let long : length (set items (i - 1) x) ≡ length items = length-set items (i - 1) x in record {
      inserted = ap (λ z. insert (set items (i - 1) z) (i - 1) y) c.replace-held.ensures.after ∙ insert_shifted_down items (i - 1) c.loop-i.held y lt is
          ∙ ap (λ n. insert items n c.loop-i.held) back ∙ inv.inserted;
      len = long ∙ inv.len;
      started = search rules;
      in_bounds = search rules;
    }

pub returns-clause-value : goal.returns-clause-value
returns-clause-value g c =
    let inv = c.loop-i.invariant in
    let xs = c.args.items.now in
    let y = c.loop-i.held in
    let i = c.loop-i.i in
    let index = c.args.index in
    let at : i ≡ index = search rules in
    let le : i ≤ length c.loop-i.items = search rules in
    let lt : index < length xs = c.requires in
    let before : get_or (xs ++ c.args.x ∷ []) index y ≡ get_or xs index y = grind (arith, places) in
    insert_taken c.loop-i.items i y le ∙ ap (λ l. get_or l i y) inv.inserted ∙ ap (λ n. get_or (xs ++ c.args.x ∷ []) n y) at ∙ before

pub returns-clause-after : goal.returns-clause-after
returns-clause-after g c =
    let inv = c.loop-i.invariant in
    let xs = c.args.items.now in
    let x = c.args.x in
    let i = c.loop-i.i in
    let at : i ≡ c.args.index = search rules in
    let le : i ≤ length c.loop-i.items = search rules in
    sym (insert_removed c.loop-i.items i c.loop-i.held le) ∙ ap (λ l. remove l i) inv.inserted ∙ ap (λ n. remove (xs ++ x ∷ []) n) at
    ∙ remove-append_left xs (x ∷ []) c.args.index c.requires
