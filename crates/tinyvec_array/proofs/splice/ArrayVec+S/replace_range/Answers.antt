use Rattle.std.proofs.Common.{◌≡◌, ℕ, List, ◌<◌, ◌≤◌, ◌+◌, ◌-◌, true≢false, refl, sym, length, take, drop, ap, ◌∙◌, arith, rules, length-take-le, length-drop}
use Rattle.tinyvec_slots.specs.Ranges.{range_start, range_end}
use Rattle.tinyvec_slots.proofs.ReplacingLemmas.{placed_at}
use Rattle.tinyvec_array.specs.View.{view}
use Rattle.tinyvec_array.proofs.splice.ArrayVec+S.replace_range.Goals as goal

-- how long a list is with r items in the place of a range
with_part : {X : Type 0} (xs : List X) (i j r : ℕ) → i ≤ j → j ≤ length xs → length (take i xs) + r + length (drop j xs) ≡ length xs - (j - i) + r
with_part xs i j r le within = omega (arith, length-take-le i xs (omega (arith, le, within)), length-drop j xs)

pub returns-then-replacement-capacity-clause-variant : goal.returns-then-replacement-capacity-clause-variant
returns-then-replacement-capacity-clause-variant g c =
    let xs = (view g.S.Slots c.args.self.now).items in
    let new = c.args.replacement.now in
    let part = c.resolve_range-part.result in
    let first = g.R.RangeBounds.start_bound c.args.range in
    let last = g.R.RangeBounds.end_bound c.args.range in
    let end = c.resolve_range-part.ensures.end ∙ ap (range_end last) c.len.ensures.value in
    let within = c.requires.in_list in
    let count = with_part xs (range_start first) (range_end last (length xs)) (length new) within.0 within.1 in
    let more : c.capacity.result - (c.len-2.result - (part.end - part.start)) < length new = search (rules, arith) in
    (λ ok. absurd (true≢false (sym ok)), λ fits. absurd (omega (arith, fits, count, more, end, c.resolve_range-part.ensures.start, c.len-2.ensures.value, c.capacity.ensures.value)))

pub returns-clause-variant : goal.returns-clause-variant
returns-clause-variant g c =
    let xs = (view g.S.Slots c.args.self.now).items in
    let new = c.args.replacement.now in
    let part = c.resolve_range-part.result in
    let first = g.R.RangeBounds.start_bound c.args.range in
    let last = g.R.RangeBounds.end_bound c.args.range in
    let end = c.resolve_range-part.ensures.end ∙ ap (range_end last) c.len.ensures.value in
    let within = c.requires.in_list in
    let count = with_part xs (range_start first) (range_end last (length xs)) (length new) within.0 within.1 in
    let few : length new ≤ c.capacity.result - (c.len-2.result - (part.end - part.start)) = search (rules, arith) in
    (λ ok. omega (arith, count, few, end, c.resolve_range-part.ensures.start, within.0, within.1, c.len-2.ensures.value, c.len-2.ensures.fits, c.capacity.ensures.value), λ fits. refl)

pub returns-clause-items : goal.returns-clause-items
returns-clause-items g c =
    let end = c.resolve_range-part.ensures.end ∙ ap (range_end (g.R.RangeBounds.end_bound c.args.range)) c.len.ensures.value in
    placed_at _ (view g.S.Slots c.args.self.now).items c.args.replacement.now _ _ _ _ c.replace_fitting.ensures.items c.resolve_range-part.ensures.start end
