use Rattle.std.proofs.Common.{append_assoc, ◌≡◌, ◌∙◌, ap, rules, get_or, take}
use Rattle.std.proofs.lemmas.List.{get_or-take}
use Rattle.tinyvec_slots.proofs.tuned.shifting.remove_shifting.Goals as goal

pub returns-clause-value : goal.returns-clause-value
returns-clause-value g c =
    let xs = c.args.slots.now in
    let y = c.shift_down.result in
    let end : c.min-end.result ≡ c.args.len = search rules in
    c.shift_down.ensures.value ∙ ap (λ n. get_or (take n xs) c.args.index y) end ∙ get_or-take c.args.len xs c.args.index y c.requires.in_list

pub returns-clause-after : goal.returns-clause-after
returns-clause-after g c =
    let xs = c.args.slots.now in
    let end : c.min-end.result ≡ c.args.len = search rules in (
      c.default.result,
      c.default.ensures,
      rw (c.shift_down.ensures.after, end) (simp append_assoc),
    )
