use Rattle.std.proofs.Common.{refl, ◌≡◌, ◌+◌, ◌-◌, ◌++◌, length, take, drop, sym, ap, ◌∙◌, arith, rules, append_assoc, take_at, drop_at, length-append, length-take-le}
use Rattle.tinyvec_slots.proofs.BorderLemmas.{list_to, spare_from, within}
use Rattle.tinyvec_array.specs.View.{NothingVacated}
use Rattle.tinyvec_array.specs.ViewLaws.{one_place}
use Rattle.tinyvec_array.proofs.RuleLemmas.{rule_used}
use Rattle.tinyvec_array.proofs.array_vec.extending.ArrayVec+S.extend_from_slice_copy.Goals as goal

pub returns : goal.returns
returns g c =
    let v = c.args.self.now in
    let k = g.S.Slots.count v.len in
    let slots = g.S.Slots.slots v.slots in
    let n = c.len-len.result in
    let long = c.len-len.ensures.value in
    let xs = c.args.other.now in
    let copies = c.copy_from_slice.new.self in
    let copied = c.copy_from_slice.ensures.after in
    let rest = drop (n + length xs - n) (drop n slots) in
    let count : n + length xs - n ≡ length xs = omega arith in
    let end : length (take n slots ++ copies) ≡ n + length xs =
    length-append (take n slots) copies ∙ ap (λ m. m + length copies) (length-take-le n slots (within k slots n long)) ∙ ap (λ l. n + length l) copied in
    let whole = sym (append_assoc (take n slots) copies rest) in
    let listed = ap (take (n + length xs)) whole ∙ take_at (take n slots ++ copies) rest (n + length xs) end
    ∙ ap (λ l. l ++ copies) (list_to k slots n long) ∙ ap (λ l. take k slots ++ l) copied in
    record {
      items = rw (g.S.Slots.slots_written, c.to_len.ensures.number, c.as_slice_mut.ensures.value) listed;
      place = one_place refl (search rules) (search rules);
      slot_rule = rule_used NothingVacated _ _ _ _ (length xs) (rw (g.S.Slots.slots_written, c.to_len.ensures.number, c.as_slice_mut.ensures.value) (ap length listed ∙ length-append (take k slots) xs))
          (rw (g.S.Slots.slots_written, c.to_len.ensures.number, c.as_slice_mut.ensures.value)
          (ap (drop (n + length xs)) whole ∙ drop_at (take n slots ++ copies) rest (n + length xs) end
          ∙ ap (λ m. drop m (drop n slots)) count ∙ ap (drop (length xs)) (spare_from k slots n long)));
      fits = within _ _ _ refl;
    }
