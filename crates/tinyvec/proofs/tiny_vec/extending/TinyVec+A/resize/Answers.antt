use Rattle.std.proofs.Common.{◌≡◌, ◌+◌, ◌-◌, inl, inr, length, take, replicate, take_all, sym, ap, subst, arith}
use Rattle.std.proofs.lemmas.List.{length-replicate}
use Rattle.std.proofs.lemmas.List.Elements.{All-replicate}
use Rattle.std.proofs.lemmas.Result.{on_err_weaker}
use Rattle.tinyvec_slots.specs.Clones.{AppendsAllOrNone}
use Rattle.tinyvec.specs.Refused.{ClonesInRoom}
use Rattle.tinyvec.specs.View.{BecomesIn, Reserved, place_for}
use Rattle.tinyvec.specs.TinyVec.{view}
use Rattle.tinyvec.proofs.ExtendingLemmas.{extended_grown, copies_refused, none_added}
use Rattle.tinyvec.proofs.PlaceLemmas.{had_place, has_room, any_list, if_err_and}
use Rattle.std.specs.Prelude.{OnOk}
use Rattle.tinyvec.proofs.tiny_vec.extending.TinyVec+A.resize.Goals as goal

pub returns-then-new_len-len-clause-clones : goal.returns-then-new_len-len-clause-clones
returns-then-new_len-len-clause-clones g c =
    let none : c.args.new_len - length (view g.A.Slots c.args.self.now).items ≡ 0 = omega (arith, c.if-new_len-len.true, c.len-len.ensures.value) in
    none_added g.A.Item.Clone.is_clone _ _ _ _ (ap (λ n. replicate n c.args.value) none) c.truncate.ensures.items

pub returns-then-new_len-len-clause-ok : goal.returns-then-new_len-len-clause-ok
returns-then-new_len-len-clause-ok g c =
    any_list (had_place g.A.Item.Default.is_default Reserved c.args.new_len (view g.A.Slots c.args.self.now) (view g.A.Slots c.truncate.new.self) _
    (omega (arith, c.if-new_len-len.true, c.len-len.ensures.value, c.len-len.ensures.fits)) c.truncate.ensures)

pub fill_reserved-requires : goal.fill_reserved-requires
fill_reserved-requires g c =
    let grown = c.in-Ok.ensures.ok in
    record { room = omega (arith, ap length grown.items, has_room g.A.Item.Default.is_default Reserved _ _ _ _ grown) }

pub returns : goal.returns
returns g c =
    let D = g.A.Item.Default.is_default in
    let C = g.A.Item.Clone.is_clone in
    let old = view g.A.Slots c.args.self.now in
    let mid = view g.A.Slots c.reserve.new.self in
    let new = view g.A.Slots c.fill_reserved.new.self in
    let r = c.fill_reserved.result in
    let x = c.args.value in
    let n = c.args.new_len - length old.items in
    let xs = replicate n x in
    let len = c.len-len.ensures.value in
    let longer = c.if-new_len-len.false in
    let missing : c.args.new_len - c.len-len.result ≡ n = omega (arith, len) in
    let put = subst (λ k. ClonesInRoom g.A.Item.Clone (replicate k x) mid new r) missing c.fill_reserved.ensures.clones in
    let grown = c.in-Ok.ensures in
    let made = extended_grown D g.A.Item.Clone xs r old new (c.args.new_len - c.len-len.result) mid (omega (arith, missing, length-replicate n x)) grown.ok.items (λ i. ap (view g.A.Slots) (grown.stays i)) grown.ok.place put in
    let need : length old.items + length xs ≡ c.args.new_len = omega (arith, len, longer, length-replicate n x) in
    let front : old.items ≡ take c.args.new_len old.items = sym (take_all c.args.new_len old.items (omega (arith, len, longer))) in record {
      clones = subst (λ l. AppendsAllOrNone C xs r l new.items) front made.clones;
      ok = subst (λ k. OnOk r (BecomesIn D old new new.items (place_for Reserved k old.place))) need made.ok;
      succeeds = λ either. elim either [ inl less ↦ absurd (omega (arith, less, len, longer)) | inr both ↦ put.succeeds (All-replicate g.A.Item.Clone.is_infallible n x both.1) ];
      refused = if_err_and _ _ r c.fill_reserved.ensures.value_returned (on_err_weaker r (copies_refused g.A.Item.Clone n c.args.new_len x old new (omega (arith, len, longer))) made.refused);
    }
