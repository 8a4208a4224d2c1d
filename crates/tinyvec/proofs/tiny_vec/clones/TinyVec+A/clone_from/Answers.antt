use Rattle.std.specs.Prelude.{IsTrue}
use Rattle.std.proofs.Common.{All, inl, ◌≡◌, ◌+◌, ◌-◌, ◌<◌, ◌≤◌, inr, min, length, take, drop, sym, ap, subst, ◌∙◌, arith, refl, length-take, length-drop, take_all}
use Rattle.std.proofs.lemmas.Bool.{false≢true}
use Rattle.std.proofs.lemmas.List.{take-take}
use Rattle.std.proofs.lemmas.List.Elements.{All-take, All-drop}
use Rattle.std.proofs.lemmas.Result.{on_ok_weaker, on_err_weaker}
use Rattle.std.specs.List.{AllZip}
use Rattle.tinyvec_slots.specs.Clones.{RefusedAt}
use Rattle.tinyvec_slots.proofs.CloneLemmas.{are_clones, on_err}
use Rattle.tinyvec.specs.View.{SpareRule}
use Rattle.std.specs.Prelude.{OnOk}
use Rattle.tinyvec.proofs.TinyLemmas.{slots_taken, slots_after_room, tiny_slots_then_framed, on_ok_two, on_err_two, never_ok}
use Rattle.tinyvec.specs.View.{Reserved}
use Rattle.tinyvec.proofs.PlaceLemmas.{place_same, has_room, no_room}
use Rattle.tinyvec.proofs.CloneLemmas.{appends_len, appends_rest}
use Rattle.tinyvec.proofs.RefusedLemmas.{refused_in_front, refused_behind, partly_over, partly_behind, cut_freed, none_freed, spare_kept}
use Rattle.tinyvec.specs.TinyVec.{view}
use Rattle.tinyvec.proofs.tiny_vec.clones.TinyVec+A.clone_from.Goals as goal

pub overwrite-requires : goal.overwrite-requires
overwrite-requires g c =
    let cut = ap length c.truncate.ensures.items ∙ length-take c.len-count.result (view g.A.Slots c.args.self.now).items in
    record { same_len = omega (arith, ap length c.as_slice.ensures, cut, c.len-count.ensures.value, c.len-len.ensures.value, c.if-count-len.true) }

-- no more items than it has: it is cut, and written over
pub returns-then-count-len : goal.returns-then-count-len
returns-then-count-len g c =
    let D = g.A.Item.Default.is_default in
    let C = g.A.Item.Clone.is_clone in
    let old = view g.A.Slots c.args.self.now in
    let left = view g.A.Slots c.truncate.new.self in
    let new = view g.A.Slots c.overwrite.new.self in
    let xs = (view g.A.Slots c.args.source.now).items in
    let r = c.overwrite.result in
    let put = c.overwrite.ensures in
    let trimmed = c.truncate.ensures in
    let m = min (length old.items) (length xs) in
    let is_len = c.len-len.ensures in
    let is_count = c.len-count.ensures.value in
    let le = c.if-count-len.true in
    let least : c.len-count.result ≡ m = omega (arith, is_len.value, is_count, le) in
    let within : m ≤ length old.items = omega arith in
    let cut : left.items ≡ take m old.items = trimmed.items ∙ ap (λ n. take n old.items) least in
    let place = put.frame.place ∙ trimmed.place ∙ sym (place_same Reserved (length xs) old.place (omega (arith, is_len.value, is_len.fits, is_count, le))) in
    let rule : SpareRule D old new = tiny_slots_then_framed D old left new trimmed.slot_rule put.frame in
    let fits : length new.items ≤ new.place.capacity = omega (arith, put.frame.len, ap (λ p. p.capacity) put.frame.place, trimmed.fits) in record {
      items = on_ok_weaker r (are_clones C xs new.items) (rw c.as_slice.ensures at put.ok);
      ok = on_ok_weaker r (λ _. record { items = refl; place = place; slot_rule = rule; fits = fits }) put.ok;
      succeeds = λ room all. put.succeeds (rw c.as_slice.ensures all);
      refused = on_err_weaker r (λ h.
          let below : h.0 < length xs = rw c.as_slice.ensures at h.1.0 in
          let early : h.0 ≤ m = omega (arith, below, is_len.value, is_count, le, h.1.0) in
          inr (
            place,
            partly_over D g.A.Item.Clone.is_infallible C xs old new m h.0 early (rw c.as_slice.ensures at h.1) (rw (c.as_slice.ensures, cut) at h.2)
                (cut_freed D old left new m put.frame trimmed.place trimmed.slot_rule cut within),
          )) put.refused;
    }

pub returns-in_err-reserve : goal.returns-in_err-reserve
returns-in_err-reserve g c =
    let answer = c.from_residual.result in
    let err = c.from_residual.ensures.0 in
    let told = c.in_err-reserve.ensures in
    let less = no_room (length (view g.A.Slots c.args.self.now).items + (c.len-count.result - c.len-len.result)) (view g.A.Slots c.args.self.now).place.capacity (λ fits. false≢true (told.kept fits).0) in
    let is_len = c.len-len.ensures.value in
    let is_count = c.len-count.ensures.value in
    let more = c.if-count-len.false in record {
      items = never_ok _ answer err;
      ok = never_ok _ answer err;
      succeeds = λ fits _. absurd (omega (arith, fits, less));
      refused = on_err answer (inl (omega (arith, less), told.refused));
    }

pub overwrite-requires-2 : goal.overwrite-requires-2
overwrite-requires-2 g c =
    let front = length-take c.len-len.result c.as_slice-2.result.now in
    record {
      same_len = omega (arith, front, ap length c.as_slice-2.ensures, ap length c.in_ok-reserve.ensures.ok.items, c.len-count.ensures.value, c.len-len.ensures.value, c.if-count-len.false);
    }

-- room was granted, and a clone of the first items refused
pub returns-in_err-overwrite : goal.returns-in_err-overwrite
returns-in_err-overwrite g c =
    let D = g.A.Item.Default.is_default in
    let I = g.A.Item.Clone.is_infallible in
    let old = view g.A.Slots c.args.self.now in
    let mid = view g.A.Slots c.reserve.new.self in
    let new = view g.A.Slots c.overwrite-2.new.self in
    let xs = (view g.A.Slots c.args.source.now).items in
    let answer = c.from_residual-in_err-overwrite.result in
    let err = c.from_residual-in_err-overwrite.ensures.0 in
    let m = min (length old.items) (length xs) in
    let n = c.len-len.result in
    let is_len = c.len-len.ensures.value in
    let is_count = c.len-count.ensures.value in
    let more = c.if-count-len.false in
    let frame = c.overwrite-2.ensures.frame in
    let h = rw c.as_slice-2.ensures at c.in_err-overwrite.ensures.refused in
    let early : h.0 ≤ n = let below = h.1.0 in let front = length-take n xs in omega arith in
    let long : m ≡ length old.items = omega arith in
    let all : take m old.items ≡ old.items = take_all m old.items (omega arith) in
    let many : length old.items + (c.len-count.result - n) ≡ length xs = omega arith in
    let grown = rw many at c.in_ok-reserve.ensures.ok in
    let place = frame.place ∙ grown.place in record {
      items = never_ok _ answer err;
      ok = never_ok _ answer err;
      succeeds = λ fits sure. absurd (false≢true (c.in_err-overwrite.ensures.succeeds (rw c.as_slice-2.ensures (All-take I n xs sure))));
      refused = on_err answer (inr (
        place,
        partly_over D I g.A.Item.Clone.is_clone xs old new m h.0 (omega arith) (refused_in_front I xs n h.0 h.1) (rw (take-take h.0 n xs early, c.in_ok-reserve.ensures.ok.items ∙ sym all) at h.2)
            (λ i. none_freed D old new m long (frame.spare ∙ spare_kept old mid new (λ i. ap (view g.A.Slots) (c.reserve.ensures.stays i)) frame.place i)),
      ));
    }

pub extend_reserved-requires : goal.extend_reserved-requires
extend_reserved-requires g c =
    let frame = c.overwrite-2.ensures.frame in
    let xs = c.as_slice-3.result.now in
    let n = c.len-len.result in
    let rest = length-take (length xs - n) (drop n xs) in
    record {
      room = omega (
        arith,
        rest,
        length-drop n xs,
        ap length c.as_slice-3.ensures,
        frame.len,
        ap (λ p. p.capacity) frame.place,
        has_room g.A.Item.Default.is_default Reserved _ _ _ _ c.in_ok-reserve.ensures.ok,
        ap length c.in_ok-reserve.ensures.ok.items,
        c.len-len.ensures.value,
        c.len-count.ensures.value,
        c.if-count-len.false,
      );
    }

pub returns : goal.returns
returns g c =
    let D = g.A.Item.Default.is_default in
    let I = g.A.Item.Clone.is_infallible in
    let C = g.A.Item.Clone.is_clone in
    let old = view g.A.Slots c.args.self.now in
    let mid = view g.A.Slots c.reserve.new.self in
    let over = view g.A.Slots c.overwrite-2.new.self in
    let new = view g.A.Slots c.extend_reserved.new.self in
    let xs = (view g.A.Slots c.args.source.now).items in
    let source = c.as_slice-3.result.now in
    let r = c.extend_reserved.result in
    let n = c.len-len.result in
    let is_len = c.len-len.ensures.value in
    let is_count = c.len-count.ensures.value in
    let more = c.if-count-len.false in
    let made = c.extend_reserved.ensures in
    let frame = c.overwrite-2.ensures.frame in
    let place = made.place ∙ frame.place in
    let stays : IsTrue mid.place.inline → mid ≡ old = λ i. ap (view g.A.Slots) (c.reserve.ensures.stays i) in
    let least : n ≡ min (length old.items) (length xs) = omega arith in
    let many : length old.items + (c.len-count.result - n) ≡ length xs = omega arith in
    let others : take (length source - n) (drop n source) ≡ drop n xs =
    ap (λ l. take (length l - n) (drop n l)) c.as_slice-3.ensures ∙ take_all (length xs - n) (drop n xs) (omega (arith, length-drop n xs)) in
    let first : AllZip C (take n xs) over.items = rw c.as_slice-2.ensures at c.in_ok-overwrite.ensures.ok in
    let grown = rw many at c.in_ok-reserve.ensures.ok in
    let at = place ∙ grown.place in
    let rule : OnOk r (SpareRule D old new) = on_ok_two r made.items made.spare (λ items spare.
    let long = appends_len C over.items new.items _ items in
    slots_after_room D old mid new stays place (slots_taken D mid new _ (omega (arith, long, frame.len)) (spare ∙ ap (drop _) frame.spare))) in record {
      items = on_ok_weaker r (λ h. are_clones C xs new.items (appends_rest C over.items new.items xs c.as_slice-2.result.now source n c.as_slice-2.ensures c.as_slice-3.ensures c.in_ok-overwrite.ensures.ok h)) made.items;
      ok = on_ok_weaker r (λ rule. record { items = refl; place = at; slot_rule = rule; fits = made.fits }) rule;
      succeeds = λ fits all. let every : All I source = rw c.as_slice-3.ensures all in made.succeeds (All-take I (length source - n) (drop n source) (All-drop I n source every));
      refused = on_err_two r made.refused made.kept (λ h kept. inr (
        at,
        rw (← least) (partly_behind D I C xs old new n h.0 is_len (refused_behind I xs n h.0 (subst (λ l. RefusedAt I l h.0) others h.1)) (subst (AllZip C (take n xs)) (sym kept) first)
            (λ i. rw (others, frame.spare ∙ spare_kept old mid new stays place i) at h.2 i)),
      ));
    }
