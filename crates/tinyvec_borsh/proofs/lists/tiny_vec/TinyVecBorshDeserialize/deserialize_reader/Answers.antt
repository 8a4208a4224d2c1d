use Rattle.std.proofs.Common.{◌≡◌, ◌+◌, ◌-◌, ◌<◌, ◌≤◌, ◌∙◌, ap, subst, sym, take, drop, length, length-append, [], map, arith, rules, ◌^◌}
use Rattle.std.proofs.lemmas.List.{length-map}
use Rattle.std.proofs.lemmas.Result.{err_from_is_err_and}
use Rattle.tinyvec_slots.specs.Slots.{AreDefaults, items_in, spare_in}
use Rattle.tinyvec.specs.TinyVec.{view}
use Rattle.tinyvec.specs.View.{IsNew, Place, Reserved, in_array, place_for}
use Rattle.tinyvec.proofs.PlaceLemmas.{place_enough}
use Rattle.tinyvec_borsh.specs.Items.{MayAllocate}
use Rattle.tinyvec_borsh.specs.Place.{place_read}
use Rattle.tinyvec_borsh.proofs.Place.{at-first, at-next, defaults-behind, placed-longer, read-inline, room-made, spare-longer, wants-ahead}
use Rattle.tinyvec_borsh.proofs.ItemByItem.{fails-count, fails-block, fails-wanting, read-all, read-appended, read-block, read-first, refused-ahead}
use Rattle.tinyvec_borsh.proofs.lists.tiny_vec.TinyVecBorshDeserialize.deserialize_reader.Goals as goal

pub returns-in_err-count-clause-fails : goal.returns-in_err-count-clause-fails
returns-in_err-count-clause-fails g c =
    let p = err_from_is_err_and c.from_residual.result c.from_residual.ensures.1 in
    rw (p.1, p.2) (fails-count g.A.Item.BorshForm.Spells g.A.Item.BorshForm.Fits g.A.Item.BorshDeserialize.Reason (MayAllocate g.A.Item.BorshForm.Spells g.A.Item.BorshForm.Fits g.A.Array.CAPACITY) (2 ^ 64 - 1) c.in_err-count.ensures.fails)

pub loop-alloc-preserved : goal.loop-alloc-preserved
loop-alloc-preserved g c =
    let old = view g.A.Slots c.loop-alloc.v in
    let new = view g.A.Slots c.read_more.new.v in
    let t = c.in_ok-read_more.ensures.ok in
    let becomes = t.2 in
    let long = ap length becomes.items in
    let longer = length-append old.items t.0 in
    let room = room-made t.1 (length new.items) old.place in
    let as_made = ap (λ (p : Place). p.capacity) becomes.place in
    record {
      read = read-appended g.A.Item.BorshForm.Spells g.A.Item.BorshForm.Fits g.A.Item.BorshForm.content_of _ _ t.0 _ _ _ _ becomes.items c.loop-alloc.invariant.read t.7 t.6;
      few = t.4;
      place = placed-longer g.A.Array.CAPACITY _ t.1 old new t.4 becomes.place c.len.ensures.inline_capacity c.loop-alloc.invariant.place;
      exact = at-next g.A.Array.CAPACITY _ (length old.items) (length new.items) t.1 old.place new.place (omega (arith, long, longer, t.3)) t.4 t.5 becomes.place c.loop-alloc.invariant.exact;
      spare = spare-longer g.A.Item.Default.is_default g.A.Array.CAPACITY t.1 old new (omega (arith, long, longer)) becomes.place becomes.slot_rule c.loop-alloc.invariant.spare;
      room = omega (arith, as_made, room.1, t.4, c.loop-alloc.invariant.room);
      ahead = omega (arith, as_made, room.0, c.loop-alloc.invariant.ahead);
      grows = omega arith;
      failed = c.in_ok-read_more.ensures.fails.failed.exact ∙ c.loop-alloc.invariant.failed;
    }

pub returns-in_err-read_more-clause-fails : goal.returns-in_err-read_more-clause-fails
returns-in_err-read_more-clause-fails g c =
    let p = err_from_is_err_and c.from_residual-in_err-read_more.result c.from_residual-in_err-read_more.ensures.1 in
    let long = length-map (view g.A.Slots c.loop-alloc.v).items g.A.Item.BorshForm.content_of in
    let more : length (view g.A.Slots c.loop-alloc.v).items < c.in_ok-count.count = search rules in
    let same : length (map g.A.Item.BorshForm.content_of (view g.A.Slots c.loop-alloc.v).items) ≡ length (view g.A.Slots c.loop-alloc.v).items = long in
    rw (p.1, p.2) (fails-wanting g.A.Item.BorshForm.Spells g.A.Item.BorshForm.Fits g.A.Item.BorshDeserialize.Reason g.met.A.Item.BorshDeserialize.apart.front_is_cut g.A.Array.CAPACITY c.in_ok-count.count
    _ _ _ c.loop-alloc.invariant.read (omega (arith, long, c.loop-alloc.invariant.few)) (omega (arith, long, more)) c.in_ok-count.ensures.valid c.loop-alloc.invariant.grows c.loop-alloc.invariant.failed
    (λ full. omega (arith, long, more, full, c.loop-alloc.invariant.ahead)) (rw (← same) at c.in_err-read_more.ensures.fails))

pub returns-clause-exact : goal.returns-clause-exact
returns-clause-exact g c =
    let all : length (view g.A.Slots c.loop-alloc.v).items ≡ c.in_ok-count.count = omega (arith, c.loop-alloc.invariant.few) in
    c.loop-alloc.invariant.exact.all all ∙ ap (place_read g.A.Array.CAPACITY) (sym all)

pub returns-in_err-read_items-clause-fails : goal.returns-in_err-read_items-clause-fails
returns-in_err-read_items-clause-fails g c =
    let p = err_from_is_err_and c.from_residual-in_err-read_items.result c.from_residual-in_err-read_items.ensures.1 in
    let few : c.in_ok-count.count < 2 ^ 64 = c.in_ok-count.ensures.valid in
    rw (p.1, p.2) (fails-block g.A.Item.BorshForm.Spells g.A.Item.BorshForm.Fits g.A.Item.BorshDeserialize.Reason (MayAllocate g.A.Item.BorshForm.Spells g.A.Item.BorshForm.Fits g.A.Array.CAPACITY) (2 ^ 64 - 1) g.met.A.Item.BorshDeserialize.apart.front_is_cut
    c.in_ok-count.count [] (read-first g.A.Item.BorshForm.Spells g.A.Item.BorshForm.Fits _ _ _ c.in_ok-count.ensures.ok) (c.in_ok-count.count - 0)
    (omega arith) (omega (arith, few)) c.in_ok-count.ensures.fails.grows c.in_ok-count.ensures.fails.failed.exact c.in_err-read_items.ensures.fails)

pub returns-then-count-CAPACITY-clause-ok : goal.returns-then-count-CAPACITY-clause-ok
returns-then-count-CAPACITY-clause-ok g c =
    let t = c.in_ok-read_items.ensures.ok in
    let same : take (g.A.Slots.count c.set_len.new.self.len) (g.A.Slots.slots c.set_len.new.self.slots) ≡ t.0 = ap items_in c.set_len.ensures.value ∙ ap (take c.in_ok-count.count) (g.A.Slots.slots_written _ _) ∙ t.1 in
    let long = length-map t.0 g.A.Item.BorshForm.content_of in
    rw same (read-all g.A.Item.BorshForm.Spells g.A.Item.BorshForm.Fits c.in_ok-count.count _ _ _ (omega (arith, long, t.2))
    (read-block g.A.Item.BorshForm.Spells g.A.Item.BorshForm.Fits _ [] _ _ _ _ (read-first g.A.Item.BorshForm.Spells g.A.Item.BorshForm.Fits _ _ _ c.in_ok-count.ensures.ok) t.4 t.3))

pub returns-then-count-CAPACITY-clause-valid : goal.returns-then-count-CAPACITY-clause-valid
returns-then-count-CAPACITY-clause-valid g c =
    let t = c.in_ok-read_items.ensures.ok in
    let same : take (g.A.Slots.count c.set_len.new.self.len) (g.A.Slots.slots c.set_len.new.self.slots) ≡ t.0 = ap items_in c.set_len.ensures.value ∙ ap (take c.in_ok-count.count) (g.A.Slots.slots_written _ _) ∙ t.1 in
    let long = length-map t.0 g.A.Item.BorshForm.content_of in
    let few = c.in_ok-count.ensures.valid in
    rw same (record { few = omega (arith, long, t.2, few); counted = omega (arith, long, t.2, few); items = t.3 })

pub returns-then-count-CAPACITY-clause-spare : goal.returns-then-count-CAPACITY-clause-spare
returns-then-count-CAPACITY-clause-spare g c is =
    let len = c.set_len.ensures.len in
    let list = c.in-Inline.list in
    let new = subst (λ v. IsNew g.A.Item.Default.is_default g.A.Array.CAPACITY (view g.A.Slots v)) c.in-Inline.is c.new-v.ensures in
    let same : drop (g.A.Slots.count c.set_len.new.self.len) (g.A.Slots.slots c.set_len.new.self.slots) ≡ drop c.in_ok-count.count (g.A.Slots.slots list.slots) =
    ap spare_in c.set_len.ensures.value ∙ ap (drop c.in_ok-count.count) (g.A.Slots.slots_written _ _) ∙ c.in_ok-read_items.ensures.behind ∙ ap (drop c.in_ok-count.count) c.as_mut_slots.ensures.value in
    let were = defaults-behind g.A.Item.Default.is_default g.A.Array.CAPACITY (g.A.Slots.count list.len) c.in_ok-count.count (g.A.Slots.slots list.slots) new.items new.spare in
    rw (same, len) were

pub returns-then-count-CAPACITY-clause-exact : goal.returns-then-count-CAPACITY-clause-exact
returns-then-count-CAPACITY-clause-exact g c =
    let len = c.set_len.ensures.len in
    let slots : length (g.A.Slots.slots c.set_len.new.self.slots) ≡ g.A.Array.CAPACITY = search rules in
    ap in_array slots ∙ sym (read-inline g.A.Array.CAPACITY c.in_ok-count.count (omega (arith, c.CAPACITY.ensures, c.if-count-CAPACITY.true))) ∙ ap (place_read g.A.Array.CAPACITY) (sym len)

pub returns-in_default-reserve-clause-fails : goal.returns-in_default-reserve-clause-fails
returns-in_default-reserve-clause-fails g c =
    let count = c.in_ok-count.ensures in
    let none = ap length c.new-v.ensures.items in
    let room = ap (λ (p : Place). p.capacity) c.new-v.ensures.place in
    let above = wants-ahead g.A.Array.CAPACITY c.in_ok-count.count _ c.reserve.result c.in_default-reserve.field-0 c.in_default-reserve.is c.min-ahead.ensures (λ fits. (c.reserve.ensures.kept (omega (arith, none, room, fits))).0) in
    refused-ahead g.A.Item.BorshForm.Spells g.A.Item.BorshForm.Fits g.A.Item.BorshDeserialize.Reason g.met.A.Item.BorshDeserialize.apart.front_is_cut g.A.Array.CAPACITY c.in_ok-count.count _ g.met.A.Item.BorshDeserialize.apart.none_is_cut
    (read-first g.A.Item.BorshForm.Spells g.A.Item.BorshForm.Fits _ _ _ count.ok) (omega (arith, above.0)) (omega arith) above.0 above.1 count.fails.grows count.fails.failed.exact

pub loop-alloc-init : goal.loop-alloc-init
loop-alloc-init g c =
    let made = c.new-v.ensures in
    let becomes = c.in-Ok.ensures.ok in
    let none = becomes.items ∙ made.items in
    let size = ap length none in
    let ahead = c.min-ahead.result in
    let start = in_array g.A.Array.CAPACITY in
    let need : length (view g.A.Slots c.new-v.result).items + ahead ≡ ahead = omega (arith, ap length made.items) in
    let place : (view g.A.Slots c.reserve.new.self).place ≡ place_for Reserved ahead start =
    becomes.place ∙ ap (place_for Reserved _) made.place ∙ ap (λ k. place_for Reserved k start) need in
    let as_made = ap (λ (p : Place). p.capacity) place in
    let room = room-made Reserved ahead start in
    let some : ahead ≤ c.in_ok-count.count = omega (arith, c.min-ahead.ensures) in
    let left : g.A.Array.CAPACITY ≡ g.A.Array.CAPACITY - length (view g.A.Slots c.reserve.new.self).items = omega (arith, size) in
    record {
      read = rw none (read-first g.A.Item.BorshForm.Spells g.A.Item.BorshForm.Fits _ _ _ c.in_ok-count.ensures.ok);
      few = omega (arith, size);
      place = record { fits = λ _. omega (arith, size); all_fit = λ fit. absurd (omega (arith, fit, c.CAPACITY.ensures, c.if-count-CAPACITY.false)) };
      exact = at-first g.A.Array.CAPACITY c.in_ok-count.count _ _ _ c.min-ahead.ensures size place;
      spare = λ inline. subst (λ n. AreDefaults g.A.Item.Default.is_default n (view g.A.Slots c.reserve.new.self).spare) left (rw (c.in-Ok.ensures.stays inline) made.spare);
      room = omega (arith, as_made, room.1, some);
      ahead = omega (arith, as_made, room.0, place_enough Reserved ahead start, c.min-ahead.ensures);
      grows = c.in_ok-count.ensures.fails.grows;
      failed = c.in_ok-count.ensures.fails.failed.exact;
    }
