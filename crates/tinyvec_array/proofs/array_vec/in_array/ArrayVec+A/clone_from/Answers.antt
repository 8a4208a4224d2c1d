use Rattle.std.proofs.Common.{◌≡◌, ◌+◌, ◌-◌, ◌++◌, length, take, drop, min, refl, sym, ap, subst, ◌∙◌, arith, take_at, drop_at, length-take}
use Rattle.tinyvec_slots.specs.Slots.{SlotRule, Vacates, items_in, spare_in, len_in, split_at}
use Rattle.tinyvec_slots.specs.Clones.{AreClones}
use Rattle.tinyvec_slots.proofs.CloneLemmas.{are_clones, on_err}
use Rattle.tinyvec_slots.proofs.BorderLemmas.{list_to, spare_from}
use Rattle.tinyvec_slots.proofs.CloneFromLemmas.{clones_in_part, all_cloned}
use Rattle.tinyvec_array.specs.ArrayVec.{view_of, slots_of}
use Rattle.tinyvec_array.specs.ViewLaws.{freed_by}
use Rattle.tinyvec_array.proofs.array_vec.in_array.ArrayVec+A.clone_from.Goals as goal

pub returns-in_err-clone_over_from-clause-refused : goal.returns-in_err-clone_over_from-clause-refused
returns-in_err-clone_over_from-clause-refused g c =
    let D = g.A.Item.Default.is_default in
    let h = c.in_err-clone_over_from.ensures.refused in
    let over = h.2 in
    let left = c.truncate.new.self in
    let k = g.A.Slots.count left.len in
    let slots = slots_of g.A.Slots left in
    let kept = length (take k slots) in
    let cut = split_at kept slots in
    let old = view_of g.A.Slots c.args.self.now in
    let source = c.as_slice.result.now in
    let n = c.len-len.result in
    let xs = c.clone_over_from.new.slots in
    let long = c.len-len.ensures.value ∙ sym (ap length c.as_slice.ensures) in
    let from_start : 0 + h.0 ≡ h.0 = omega arith in
    let written = rw c.as_slice_mut.ensures.value at over.written ∙ ap (λ m. over.made ++ drop m slots) from_start in
    let as_long : length xs ≡ length slots = c.clone_over_from.auto.slots ∙ ap length c.as_slice_mut.ensures.value in
    let now_is : kept ≡ length (take k xs) = length-take k slots ∙ ap (λ m. min k m) (sym as_long) ∙ sym (length-take k xs) in
    let less : len_in old ≡ kept + (len_in old - n) = omega (arith, ap length c.truncate.ensures.items, length-take n (items_in old)) in
    let freed = freed_by D _ _ _ _ (len_in old - n) less (c.truncate.ensures.slot_rule) in
    let frees : Vacates D (len_in old - n) old cut = (freed.0, freed.1, spare_from k slots kept refl ∙ freed.2) in
    on_err c.from_residual.result (rw (g.A.Slots.slots_written, ← list_to k xs kept now_is, ← spare_from k xs kept now_is, ← c.as_slice.ensures)
    (clones_in_part D g.A.Item.Clone.is_infallible g.A.Item.Clone.is_clone old cut cut source n
    refl long (omega (arith, length-take k slots)) (list_to k slots kept refl ∙ c.truncate.ensures.items) frees h.0 over.made xs h.1 over.clones written))

pub returns : goal.returns
returns g c =
    let D = g.A.Item.Default.is_default in
    let left = c.truncate.new.self in
    let k = g.A.Slots.count left.len in
    let slots = slots_of g.A.Slots left in
    let kept = length (take k slots) in
    let cut = split_at kept slots in
    let old = view_of g.A.Slots c.args.self.now in
    let source = c.as_slice.result.now in
    let n = c.len-len.result in
    let new = split_at n c.clone_over_from.new.slots in
    let over = c.in_ok-clone_over_from.ensures.ok in
    let long = c.len-len.ensures.value ∙ sym (ap length c.as_slice.ensures) in
    let count = over.count ∙ sym long in
    let from_start : 0 + length source ≡ length source = omega arith in
    let written = rw c.as_slice_mut.ensures.value at over.written ∙ ap (λ m. over.made ++ drop m slots) from_start in
    let listed : items_in new ≡ over.made = ap (take n) written ∙ take_at over.made (drop (length source) slots) n count in
    let behind : spare_in new ≡ drop (length source) slots = ap (drop n) written ∙ drop_at over.made (drop (length source) slots) n count in
    let less : len_in old ≡ kept + (len_in old - n) = omega (arith, ap length c.truncate.ensures.items, length-take n (items_in old)) in
    let freed = freed_by D _ _ _ _ (len_in old - n) less (c.truncate.ensures.slot_rule) in
    let frees : Vacates D (len_in old - n) old cut = (freed.0, freed.1, spare_from k slots kept refl ∙ freed.2) in
    let put : view_of g.A.Slots c.set_len.new.self ≡ new = c.set_len.ensures.value ∙ ap (split_at n) (g.A.Slots.slots_written left.slots c.clone_over_from.new.slots) in
    record {
      lender = record {
        same_reference = c.set_len.ensures.lender.same_reference ∙ g.A.Slots.name_kept left.slots c.clone_over_from.new.slots ∙ ap (λ p. p.lender) c.truncate.ensures.place;
        slot_count = c.set_len.ensures.lender.slot_count ∙ ap length (g.A.Slots.slots_written left.slots c.clone_over_from.new.slots) ∙ c.clone_over_from.auto.slots ∙ ap length c.as_slice_mut.ensures.value
            ∙ ap (λ p. p.capacity) c.truncate.ensures.place;
      };
      items = rw (← c.as_slice.ensures) (subst (λ l. AreClones g.A.Item.Clone.is_clone source l) (sym (ap items_in put ∙ listed)) (are_clones g.A.Item.Clone.is_clone source over.made over.clones));
      slot_rule = subst (λ v. SlotRule D old v) (sym put) (all_cloned D g.A.Item.Clone.is_infallible g.A.Item.Clone.is_clone old cut cut source n
          refl long (omega (arith, length-take k slots)) (list_to k slots kept refl ∙ c.truncate.ensures.items) frees new (ap length listed ∙ over.count) behind);
      refused = tt;
      succeeds = λ _. refl;
    }

pub returns-in_err-clone_over_from-clause-lender : goal.returns-in_err-clone_over_from-clause-lender
returns-in_err-clone_over_from-clause-lender g c =
    let left = c.truncate.new.self in
    record {
      same_reference = g.A.Slots.name_kept left.slots c.clone_over_from.new.slots ∙ ap (λ p. p.lender) c.truncate.ensures.place;
      slot_count = ap length (g.A.Slots.slots_written left.slots c.clone_over_from.new.slots) ∙ c.clone_over_from.auto.slots ∙ ap length c.as_slice_mut.ensures.value ∙ ap (λ p. p.capacity) c.truncate.ensures.place;
    }
