use Rattle.std.proofs.Common.{◌≡◌, ℕ, List, ◌-◌, ◌≤◌, ◌++◌, length, slice_range, sym, ap, ◌∙◌, arith, rules, length-append, append_assoc, take_at, drop_at}
use Rattle.std.specs.List.{remove_range}
use Rattle.tinyvec_slots.specs.Ranges.{range_end, items_before, items_within, items_after}
use Rattle.tinyvec_slots.specs.Slots.{Slots, split_at, items_in, spare_in, all_slots}
use Rattle.tinyvec_slots.proofs.Lists.{length-remove_range, length-slice_range}
use Rattle.tinyvec_slots.proofs.SlotsLemmas.{slots_are}
use Rattle.tinyvec_slots.proofs.BorderLemmas.{within}
use Rattle.tinyvec_array.specs.ArrayVec.{view_of, slots_of}
use Rattle.tinyvec_array.specs.View.{view}
use Rattle.tinyvec_array.proofs.drain.ArrayVec+S.cut_out.Goals as goal

pub set_len-requires : goal.set_len-requires
set_len-requires g c =
    let L = (view g.S.Slots c.args.self.now).items in
    let i = c.resolve_range-part.result.start in
    let j = c.resolve_range-part.result.end in
    let moved = c.move_to_end.new.self in
    let bounds = g.R.RangeBounds.end_bound c.args.range in
    let end_is = c.resolve_range-part.ensures.end ∙ ap (range_end bounds) c.len-len.ensures.value in
    let both = ap length c.move_to_end.ensures.items ∙ length-append (remove_range L i j) (slice_range L i j) in
    let order : i ≤ j = search rules in
    let ends : j ≤ length L = search rules in
    let kept = length-remove_range L i j order ends in
    let out = length-slice_range L i j order ends in
    let all = c.len-len.ensures.value in
    let long : length (view g.S.Slots moved).items ≡ c.len-len.result = omega arith in
    let le = within (g.S.Slots.count moved.len) (slots_of g.S.Slots moved) c.len-len.result (sym long) in
    omega arith

-- The items from i up to j and others were the list, with those after the others, and then the border was moved between them.
cut_parts : {T : Type 0} (L S : List T) (i j k : ℕ) (moved : Slots T) → i ≤ j → j ≤ length L → k ≡ length L - (j - i)
    → items_in moved ≡ remove_range L i j ++ slice_range L i j → spare_in moved ≡ S
    → (items_in (split_at k (all_slots moved)) ≡ remove_range L i j) × (spare_in (split_at k (all_slots moved)) ≡ slice_range L i j ++ S)
cut_parts L S i j k moved order ends fewer listed spare =
    let B = remove_range L i j in
    let M = slice_range L i j in
    let long : length B ≡ k = length-remove_range L i j order ends ∙ sym fewer in
    let cut : all_slots moved ≡ B ++ (M ++ S) = slots_are moved ∙ ap (λ xs. xs ++ spare_in moved) listed ∙ ap (λ xs. (B ++ M) ++ xs) spare ∙ append_assoc B M S in
    rw cut (take_at B (M ++ S) k long, drop_at B (M ++ S) k long)

module _ (g : _) (c : goal.After-set_len g) where
  cut : (items_in (split_at (c.len-len.result - (c.resolve_range-part.result.end - c.resolve_range-part.result.start)) (slots_of g.S.Slots c.move_to_end.new.self))
      ≡ items_before (view g.S.Slots c.args.self.now).items (g.R.RangeBounds.start_bound c.args.range) ++ items_after (view g.S.Slots c.args.self.now).items (g.R.RangeBounds.end_bound c.args.range))
      × (spare_in (split_at (c.len-len.result - (c.resolve_range-part.result.end - c.resolve_range-part.result.start)) (slots_of g.S.Slots c.move_to_end.new.self))
      ≡ items_within (view g.S.Slots c.args.self.now).items (g.R.RangeBounds.start_bound c.args.range) (g.R.RangeBounds.end_bound c.args.range) ++ (view g.S.Slots c.args.self.now).spare)
  cut =
      let part = c.resolve_range-part.result in
      let L = (view g.S.Slots c.args.self.now).items in
      let all = c.len-len.ensures.value in
      let bounds = g.R.RangeBounds.end_bound c.args.range in
      let start_is = c.resolve_range-part.ensures.start in
      let end_is = c.resolve_range-part.ensures.end ∙ ap (range_end bounds) all in
      let order : part.start ≤ part.end = search rules in
      let ends : part.end ≤ length L = search rules in
      rw (← start_is, ← end_is) (cut_parts L _ part.start part.end (c.len-len.result - (c.resolve_range-part.result.end - c.resolve_range-part.result.start)) (view_of g.S.Slots c.move_to_end.new.self) order ends
      (omega (arith, all)) c.move_to_end.ensures.items c.move_to_end.ensures.spare)

pub returns-clause-items : goal.returns-clause-items
returns-clause-items g c = ap items_in c.set_len.ensures.value ∙ (cut g c).0

pub returns-clause-spare : goal.returns-clause-spare
returns-clause-spare g c = ap spare_in c.set_len.ensures.value ∙ (cut g c).1
