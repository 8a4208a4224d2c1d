use Rattle.std.proofs.Common.{◌<◌, refl, ap, ◌∙◌, length, arith, rules, set, get_or, take, drop, length-take-le}
use Rattle.std.proofs.lemmas.List.{set_at}
use Rattle.std.proofs.lemmas.List.Edits.{get_or-insert_at, length-insert}
use Rattle.tinyvec.proofs.TinyLemmas.{tiny_items-with_item, tiny_framed-with_item}
use Rattle.tinyvec.proofs.PlaceLemmas.{becomes_framed}
use Rattle.tinyvec.specs.TinyVec.{view}
use Rattle.tinyvec.proofs.tiny_vec.edits.TinyVec+A.insert_mut.Goals as goal

pub returns : goal.returns
returns g c =
    let old = c.args.self.now in
    let xs = (view g.A.Slots old).items in
    let x = c.args.element in
    let i = c.args.index in
    let new = c.insert.new.self in
    let y = c.index_mut.result.now in
    let put = c.in_default.ensures.ok in
    let in_list = c.requires in
    let inside : i < length (view g.A.Slots new).items = omega (arith, ap length put.items, length-insert xs i x in_list, in_list) in (
      (
        refl,
        λ w _. becomes_framed g.A.Item.Default.is_default (view g.A.Slots old) (view g.A.Slots new) _ _ _ _ put (tiny_framed-with_item g.A.Slots new i w inside)
            (tiny_items-with_item g.A.Slots new i w inside ∙ ap (λ l. set l i w) put.items ∙ set_at (take i xs) x (drop i xs) w i (length-take-le i xs in_list)),
        tt,
      ),
      record { writes_back = tt; ok = c.index_mut.ensures.value ∙ ap (λ l. get_or l i y) put.items ∙ get_or-insert_at xs i x y in_list; err = tt; succeeds = search rules },
    )
