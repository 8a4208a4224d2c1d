use Rattle.std.proofs.Common.{refl, ◌≡◌, ℕ, ◌+◌, ◌-◌, ◌≤◌, List, ◌++◌, length, take, drop, sym, ap, subst, ◌∙◌, arith, length-append, drop-drop}
use Rattle.tinyvec_slots.specs.Slots.{items_in, spare_in, split_at}
use Rattle.tinyvec_slots.proofs.BorderLemmas.{list_to, spare_from}
use Rattle.tinyvec_array.specs.ArrayVec.{view_of, slots_of}
use Rattle.tinyvec_array.specs.View.{view, StaysInPlace}
use Rattle.tinyvec_array.specs.ViewLaws.{one_place}
use Rattle.tinyvec_array.proofs.ViewLemmas.{grown}
use Rattle.tinyvec_array.proofs.can_splice.ArrayVecCanSplice.append_counted.Goals.{After-set_len}
use Rattle.tinyvec_array.proofs.can_splice.ArrayVecCanSplice.append_counted.Goals as goal

-- The slots xs hold a list of n items, and ys are those slots once `placed` was placed behind it, up to `end`.
module _ {T : Type 0} (k n : ℕ) (xs ys placed : List T) (end : ℕ) (long : n ≡ length (take k xs)) (after : n ≤ end)
    (front : take end ys ≡ take n xs ++ placed) (count : length placed ≡ end - n) (behind : drop end ys ≡ drop end xs) where
  same : take end ys ≡ take k xs ++ placed
  same = front ∙ ap (λ l. l ++ placed) (list_to k xs n long)

  more : length (take end ys) - length (take k xs) ≡ end - n
  more = let all = ap length same ∙ length-append (take k xs) placed in omega (arith, all, count)

  used : drop end ys ≡ drop (length (take end ys) - length (take k xs)) (drop k xs)
  used =
      let sum : n + (end - n) ≡ end = omega (arith, after) in
      behind ∙ ap (λ i. drop i xs) (sym sum) ∙ sym (drop-drop (end - n) n xs) ∙ ap (drop (end - n)) (spare_from k xs n long) ∙ ap (λ i. drop i (drop k xs)) (sym more)

module _ (g : _) (c : After-set_len g) where
  abbrev k : ℕ
  k = g.S.Slots.count c.args.self.now.len

  abbrev xs : List g.row.S-Item.Denot
  xs = slots_of g.S.Slots c.args.self.now

  abbrev ys : List g.row.S-Item.Denot
  ys = c.append-end.new.slots

  shown : c.as_mut_slots.result.now ≡ xs
  shown = c.as_mut_slots.ensures.value

  viewed : view_of g.S.Slots c.set_len.new.self ≡ split_at c.append-end.result ys
  viewed = c.set_len.ensures.value ∙ ap (split_at c.append-end.result) (g.S.Slots.slots_written c.args.self.now.slots ys)

  items : items_in (view_of g.S.Slots c.set_len.new.self) ≡ take k xs ++ c.append-end.ensures.placed.0
  items =
      ap items_in viewed ∙ same k c.len-len.result xs ys c.append-end.ensures.placed.0 c.append-end.result c.len-len.ensures.value c.append-end.ensures.bounds.0
      (rw shown at c.append-end.ensures.placed.1) c.append-end.ensures.placed.2 (rw shown at c.append-end.ensures.behind)

  all : length (slots_of g.S.Slots c.set_len.new.self) ≡ length c.as_mut_slots.result.now
  all = c.set_len.ensures.lender.slot_count ∙ ap length (g.S.Slots.slots_written c.args.self.now.slots ys) ∙ c.append-end.auto.slots

  is_grown : StaysInPlace g.S.Item.Default.is_default (view g.S.Slots c.args.self.now) (view g.S.Slots c.set_len.new.self)
  is_grown =
      let size = ap length shown in
      let place = one_place refl (all ∙ size) (c.set_len.ensures.lender.same_reference ∙ g.S.Slots.name_kept c.args.self.now.slots ys) in
      let behind = subst (λ w. spare_in w ≡ drop (length (items_in w) - length (take k xs)) (drop k xs)) (sym viewed) (used k c.len-len.result xs ys c.append-end.ensures.placed.0 c.append-end.result c.len-len.ensures.value c.append-end.ensures.bounds.0
      (rw shown at c.append-end.ensures.placed.1) c.append-end.ensures.placed.2 (rw shown at c.append-end.ensures.behind)) in
      grown g.S.Slots g.S.Item.Default.is_default c.args.self.now c.set_len.new.self c.append-end.ensures.placed.0 items behind place

pub returns-in-Some-clause-ran : goal.returns-in-Some-clause-ran
returns-in-Some-clause-ran g c =
    let at = (goal.at.returns-in-Some-clause-ran g c).After-set_len in
    let full : c.append-end.result ≡ length c.as_mut_slots.result.now = omega (arith, all g at, c.capacity.ensures.value, c.append-end.ensures.bounds.1) in
    (c.append-end.ensures.placed.0, (c.append-end.new.iter, (c.append-end.ensures.placed.3 full).0, c.in-Some.ensures.steps), items g at)

pub returns-in-None-clause-ran : goal.returns-in-None-clause-ran
returns-in-None-clause-ran g c =
    let at = (goal.at.returns-in-None-clause-ran g c).After-set_len in
    let full : c.append-end.result ≡ length c.as_mut_slots.result.now = omega (arith, all g at, c.capacity.ensures.value, c.append-end.ensures.bounds.1) in
    (c.append-end.ensures.placed.0, (c.next.new.self, (c.append-end.new.iter, (c.append-end.ensures.placed.3 full).0, c.in-None.ensures.steps)), items g at)

pub returns-then-end-capacity-clause-grown : goal.returns-then-end-capacity-clause-grown
returns-then-end-capacity-clause-grown g c = is_grown g (goal.at.returns-then-end-capacity-clause-grown g c).After-set_len

pub returns-in-Some-clause-grown : goal.returns-in-Some-clause-grown
returns-in-Some-clause-grown g c = is_grown g (goal.at.returns-in-Some-clause-grown g c).After-set_len

pub returns-in-None-clause-grown : goal.returns-in-None-clause-grown
returns-in-None-clause-grown g c = is_grown g (goal.at.returns-in-None-clause-grown g c).After-set_len
