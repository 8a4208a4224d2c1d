use Rattle.std.proofs.Common.{◌≡◌, ◌∙◌, ◌+◌, ◌-◌, ◌<◌, ◌≤◌, ap, inl, length, arith, rules, sym}
use Rattle.tinyvec_borsh.proofs.Place.{grows-last}
use Rattle.std.proofs.lemmas.Result.{err_from_is_err_and, on_ok_weaker}
use Rattle.tinyvec.specs.Lends.{tiny_with_items}
use Rattle.tinyvec.specs.TinyVec.{view}
use Rattle.tinyvec.specs.View.{Reserved, place_for}
use Rattle.tinyvec.proofs.TinyLemmas.{tiny_fits, tiny_framed-with, tiny_items-with, tiny_slots_then_framed}
use Rattle.tinyvec_borsh.proofs.Blocks.{grown, of-more}
use Rattle.tinyvec_borsh.proofs.ItemByItem.{fails-like}
use Rattle.tinyvec_borsh.proofs.Pushed.{fails-first-item, refused-item, refused-last}
use Rattle.tinyvec_borsh.proofs.lists.tiny_vec.read_more.Goals as goal

pub returns-clause-ok : goal.returns-clause-ok
returns-clause-ok g c =
    let old = view g.A.Slots c.args.v.now in
    let mid = view g.A.Slots c.resize_with.new.self in
    let new = tiny_with_items g.A.Slots c.resize_with.new.self c.read_items.new.slots in
    let made = c.in-Ok-resize_with.ensures.ok in
    let end = c.len-start.result + c.min-2.result in
    let same : length c.read_items.new.slots ≡ length mid.items = search rules in
    let framed = tiny_framed-with g.A.Slots c.resize_with.new.self c.read_items.new.slots same in
    let fewer : length mid.items ≤ c.args.count = search rules in
    let long : length old.items + 1 ≤ length mid.items = search rules in
    let room : c.min-2.result ≤ old.place.capacity - length old.items + 1 = search rules in
    let fits : length old.items ≤ old.place.capacity = search rules in
    let now : length (view g.A.Slots new).items ≡ length old.items + c.min-2.result = omega (arith, framed.len, c.in-Ok-resize_with.ensures.len, c.len-start.ensures.value) in
    let enough : length old.items + c.min-2.result < c.args.count → length old.items + c.min-2.result ≤ old.place.capacity = search rules in
    let how = grows-last (length (view g.A.Slots new).items) c.args.count old.place (omega (arith, room, fits, now)) (omega (arith, framed.len, fewer)) (λ less. omega (arith, now, enough (omega (arith, now, less)))) in
    on_ok_weaker c.read_items.result (λ t. (
      t.0,
      how.0,
      record {
        items = tiny_items-with g.A.Slots c.resize_with.new.self c.read_items.new.slots same ∙ grown c.len-start.result end old.items c.in-Ok-resize_with.ensures.items.0 mid.items c.read_items.new.slots t.0 (search rules) (search rules) c.in-Ok-resize_with.ensures.items.2 (search rules) (search rules);
        place = framed.place ∙ made.place ∙ ap (λ n. place_for Reserved n old.place) (search rules) ∙ sym how.2;
        slot_rule = tiny_slots_then_framed g.A.Item.Default.is_default old mid (view g.A.Slots new) made.slot_rule framed;
        fits = tiny_fits g.A.Slots new;
      },
      search rules,
      omega (arith, framed.len, fewer),
      how.1,
      t.3,
      t.4,
    )) c.read_items.ensures.ok

pub returns-clause-fails : goal.returns-clause-fails
returns-clause-fails g c =
    let so = of-more g.A.Item.BorshForm.Spells g.A.Item.BorshForm.Fits g.A.Item.BorshDeserialize.Reason _ _ (search rules) in
    fails-like c.read_items.result (λ e input why. inl (so e input why)) c.read_items.ensures.fails

pub returns-in_err-item-clause-fails : goal.returns-in_err-item-clause-fails
returns-in_err-item-clause-fails g c =
    let p = err_from_is_err_and c.from_residual.result c.from_residual.ensures.1 in
    rw (p.1, p.2) (fails-first-item g.A.Item.BorshForm.Spells g.A.Item.BorshForm.Fits g.A.Item.BorshDeserialize.Reason _ _ _ (omega arith) c.in_err-item.ensures.fails)

pub returns-in_default-clause-fails : goal.returns-in_default-clause-fails
returns-in_default-clause-fails g c =
    refused-item g.A.Item.BorshForm.Spells g.A.Item.BorshForm.Fits g.A.Item.BorshDeserialize.Reason _ _ _ (g.A.Item.BorshForm.content_of c.in_ok-item.item) (omega arith) g.met.A.Item.BorshDeserialize.apart.front_is_cut g.met.A.Item.BorshDeserialize.apart.none_is_cut
    (search rules) c.in_ok-item.ensures.ok c.in_ok-item.ensures.valid c.in_ok-item.ensures.fails.grows c.in_ok-item.ensures.fails.failed.exact

pub returns-in_default-resize_with-clause-fails : goal.returns-in_default-resize_with-clause-fails
returns-in_default-resize_with-clause-fails g c =
    refused-last g.A.Item.BorshForm.Spells g.A.Item.BorshForm.Fits g.A.Item.BorshDeserialize.Reason _ _ _ (omega arith) g.met.A.Item.BorshDeserialize.apart.none_is_cut (search rules) (search rules)
