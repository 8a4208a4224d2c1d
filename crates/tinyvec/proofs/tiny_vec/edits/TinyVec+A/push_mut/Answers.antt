use Rattle.std.proofs.Common.{◌≡◌, ◌<◌, [], refl, ap, ◌∙◌, length, arith, rules, set, get_or}
use Rattle.std.proofs.lemmas.List.{get_or_at, set_at, length_push}
use Rattle.tinyvec.proofs.TinyLemmas.{tiny_items-with_item, tiny_framed-with_item}
use Rattle.tinyvec.proofs.PlaceLemmas.{becomes_framed}
use Rattle.tinyvec.specs.TinyVec.{view}
use Rattle.tinyvec.proofs.tiny_vec.edits.TinyVec+A.push_mut.Goals as goal

pub returns : goal.returns
returns g c =
    let old = c.args.self.now in
    let x = c.args.value in
    let i = c.len-at.result in
    let new = c.push.new.self in
    let y = c.index_mut.result.now in
    let put = c.in_default.ensures.ok in
    let at : length (view g.A.Slots old).items ≡ i = omega (arith, c.len-at.ensures.value) in
    let inside : i < length (view g.A.Slots new).items = omega (arith, ap length put.items, length_push (view g.A.Slots old).items x, at) in (
      (
        refl,
        λ w _. becomes_framed g.A.Item.Default.is_default (view g.A.Slots old) (view g.A.Slots new) _ _ _ _ put (tiny_framed-with_item g.A.Slots new i w inside)
            (tiny_items-with_item g.A.Slots new i w inside ∙ ap (λ l. set l i w) put.items ∙ set_at (view g.A.Slots old).items x [] w i at),
        tt,
      ),
      record { writes_back = tt; ok = c.index_mut.ensures.value ∙ ap (λ l. get_or l i y) put.items ∙ get_or_at (view g.A.Slots old).items x [] y i at; err = tt; succeeds = search rules },
    )
