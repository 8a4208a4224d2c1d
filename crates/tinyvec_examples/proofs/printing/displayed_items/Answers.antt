use Rattle.std.proofs.Common.{◌≡◌, subst, IfOk, IfSome, string_bytes}
use Rattle.tinyvec_array.specs.View.{view}
use Rattle.tinyvec_slots.proofs.TextLemmas.{debug_list-known}
use Rattle.tinyvec_examples.proofs.printing.displayed_items.Goals as goal

pub returns : goal.returns
returns g c text known =
    let told = debug_list-known _ text known (view g.A.Slots c.args.v.now).items in
    subst (λ o. IfOk c.format.result (λ s. IfSome o (λ bs. string_bytes s ≡ bs))) told c.format.ensures.ok
