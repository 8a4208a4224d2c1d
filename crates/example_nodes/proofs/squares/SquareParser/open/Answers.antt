use Rattle.std.proofs.Common.{rules, ◌≡◌, ◌∙◌, ap, length, nat_lt, None}
use Rattle.tinyvec_array.specs.ArrayVec.{items}
use Rattle.example_nodes.specs.Machine.{demanded}
use Rattle.example_nodes.specs.declared.parse_error.Fault.TheVariants.{TooDeep}
use Rattle.example_nodes.proofs.Filled.{square_opens, depth_is}
use Rattle.example_nodes.proofs.squares.SquareParser.open.Goals as goal

pub returns : goal.returns
returns c =
    let now = c.args.self.now in
    let room : demanded (nat_lt (length now.outer.items) 128) TooDeep ≡ None = search rules in (
      ap (λ n. demanded (nat_lt n 128) TooDeep) (depth_is now.outer.items) ∙ room,
      square_opens now record { outer = c.push.new.self; parts = c.replace-before.new.dest } c.replace-before.result (search rules) c.replace-before.ensures.value
          (ap items c.replace-before.ensures.after ∙ c.new.ensures.items),
    )
