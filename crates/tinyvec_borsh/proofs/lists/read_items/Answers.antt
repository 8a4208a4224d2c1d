use Rattle.std.proofs.Common.{◌≡◌, ◌-◌, length, arith, rules}
use Rattle.std.proofs.lemmas.Slice.{drop-put_mid}
use Rattle.tinyvec_borsh.proofs.Blocks.{take-block}
use Rattle.tinyvec_borsh.proofs.Outcomes.{on-both}
use Rattle.tinyvec_borsh.proofs.lists.read_items.Goals as goal

pub returns-clause-ok : goal.returns-clause-ok
returns-clause-ok g c =
    let long : length c.deserialize_slots.new.slots ≡ c.args.end - c.args.start = search rules in
    on-both c.deserialize_slots.result (λ fit taken. (c.deserialize_slots.new.slots, take-block c.args.start c.args.end c.args.slots.now c.deserialize_slots.new.slots (omega arith) (omega arith) long, long, fit, taken))
    c.deserialize_slots.ensures.valid c.deserialize_slots.ensures.ok

pub returns-clause-behind : goal.returns-clause-behind
returns-clause-behind g c =
    let long : length c.deserialize_slots.new.slots ≡ c.args.end - c.args.start = search rules in
    drop-put_mid c.args.start (c.args.end - c.args.start) c.args.slots.now c.deserialize_slots.new.slots c.args.end (omega arith) (omega arith) long
