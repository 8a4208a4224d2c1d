use Rattle.std.proofs.Common.{◌≡◌, ◌+◌, ◌∷◌, drop, fold, refl, sym, ap, ◌∙◌}
use Rattle.std.proofs.lemmas.List.{drop_all, drop_more}
use Rattle.std.proofs.lemmas.List.Sums.{fold-append}
use Rattle.std.specs.List.{flat_map}
use Rattle.tinyvec_slots.proofs.tuned.comparing.hash_items.Goals as goal

pub loop-item-init : goal.loop-item-init
loop-item-init g c = refl

pub loop-item-preserved : goal.loop-item-preserved
loop-item-preserved g c =
    let xs = c.args.items.now in
    let i = c.loop-item.item-index in
    let x = c.item-item.result in
    let feeds = g.T.Hash.hash_input in
    let left : drop i xs ≡ x ∷ drop (i + 1) xs = drop_more xs i x c.loop-item-test.true ∙ ap (λ y. y ∷ drop (i + 1) xs) (sym c.item-item.is) in
    rw (c.hash.ensures, ← fold-append g.H.Hasher.write c.loop-item.state (feeds x) (flat_map feeds (drop (i + 1) xs))) (rw left at c.loop-item.invariant)

pub returns : goal.returns
returns g c =
    (rw (drop_all c.loop-item.item-index c.args.items.now c.loop-item-test.false) at c.loop-item.invariant)
    ∙ ap (λ s. fold g.H.Hasher.write s (flat_map g.T.Hash.hash_input c.args.items.now)) c.write_usize.ensures
