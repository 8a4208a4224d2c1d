use Rattle.std.proofs.Common.{◌≡◌, [], ◌∷◌, ◌++◌, Some, IsSome, sym, subst, arith, rules}
use Rattle.std.proofs.lemmas.Grind.{common_steps}
use Rattle.std.specs.List.{All}
use Rattle.tinyvec.specs.TinyVec.{tiny_items}
use Rattle.tinyvec_examples.proofs.readme.names.add.Goals as goal

pub returns : goal.returns
returns c =
    let pushed : tiny_items c.push.new.self ≡ tiny_items c.args.names.now ++ Some c.args.name ∷ [] = search rules in
    subst (All IsSome) (sym pushed) (grind (arith, common_steps))
