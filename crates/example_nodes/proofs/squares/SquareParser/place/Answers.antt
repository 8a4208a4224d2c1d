use Rattle.std.proofs.Common.{◌∙◌, refl, ap, sym, not}
use Rattle.example_nodes.specs.Machine.{demanded}
use Rattle.example_nodes.specs.declared.parse_error.Fault.TheVariants.{Full}
use Rattle.example_nodes.proofs.Filled.{part_placed, has_room}
use Rattle.example_nodes.proofs.squares.SquareParser.place.Goals as goal

pub returns : goal.returns
returns c =
    let now = c.args.self.now in (
      ap (λ room. demanded room Full) (sym (has_room now.parts c.is_full.ensures.slot_count) ∙ ap not (sym c.is_full.ensures.value)) ∙ c.in_ok-demand.ensures.ok,
      part_placed now record { outer = now.outer; parts = c.push.new.self } c.args.part refl c.push.ensures.items,
    )
