use Rattle.std.proofs.Common.{◌-◌, ◌+◌, ◌++◌, refl, length}
use Rattle.tinyvec.specs.TinyVec.{tiny_items, tiny_len}
use Rattle.tinyvec.specs.View.{Reserved}
use Rattle.tinyvec_slots.specs.Ranges.{range_start, range_end, items_before, items_after}
use Rattle.tinyvec_text.proofs.Boundaries.{utf8_put, chars_put}
use Rattle.tinyvec_text.proofs.Lists.{ListGrows, CutsAt, list_replaced, text_utf8, text_range, text_range_of, text_after, text_grows}
use Rattle.tinyvec_text.proofs.inline_text.InlineText.replace_range.Goals.{After-as_bytes, After-replace_range}
use Rattle.tinyvec_text.proofs.inline_text.InlineText.replace_range.Goals as goal

-- the range
cuts : (g : _) (c : After-as_bytes g) → let n = tiny_len c.self.inside.list in let end = g.R.RangeBounds.end_bound c.args.range in
    let start = g.R.RangeBounds.start_bound c.args.range in CutsAt (tiny_items c.self.inside.list) c.args.self.now.bytes start end (range_start start) (range_end end n)
cuts g c =
    text_range c.self.inside.list c.args.self.now c.self.view_is c.self.invariant _ _ c.requires.start_le_end c.requires.start_boundary
    c.requires.end_boundary _ _ (tiny_len c.self.inside.list) refl refl refl

pub replace_range-requires-clause-in_list : goal.replace_range-requires-clause-in_list
replace_range-requires-clause-in_list g c =
    text_range_of c.self.inside.list c.args.self.now c.self.view_is (g.R.RangeBounds.start_bound c.args.range) (g.R.RangeBounds.end_bound c.args.range)
    c.requires.start_le_end c.requires.end_boundary

-- what the list became
grown : (g : _) (c : After-replace_range g) → let list = c.self.inside.list in let end = g.R.RangeBounds.end_bound c.args.range in
    let start = g.R.RangeBounds.start_bound c.args.range in
    ListGrows Reserved (tiny_len list - (range_end end (tiny_len list) - range_start start) + length c.as_bytes.result.now) list c.replace_range.new.self
    (items_before (tiny_items list) start ++ c.as_bytes.result.now ++ items_after (tiny_items list) end) c.replace_range.result
grown g c =
    let list = c.self.inside.list in
    let put = c.replace_range in
    let start = g.R.RangeBounds.start_bound c.args.range in
    let end = g.R.RangeBounds.end_bound c.args.range in
    list_replaced list put.new.self start end c.as_bytes.result.now put.result
    (text_range_of list c.args.self.now c.self.view_is start end c.requires.start_le_end c.requires.end_boundary)
    put.ensures.items put.ensures.ok put.ensures.succeeds put.ensures.refused _ refl

pub invariant_of-self : goal.invariant_of-self
invariant_of-self g c =
    let list = c.self.inside.list in
    let cut = cuts g (goal.at.invariant_of-self g c).After-as_bytes in
    text_after _ _ list c.replace_range.new.self _ c.replace_range.result (grown g (goal.at.invariant_of-self g c).After-replace_range) c.self.invariant
    (utf8_put (tiny_items list) (text_utf8 list c.self.invariant) _ _ cut.first cut.last _ c.as_bytes.ensures.utf8)

pub returns : goal.returns
returns g c =
    let list = c.self.inside.list in
    let cut = cuts g (goal.at.returns g c).After-as_bytes in
    rw (← c.self.view_is, ← c.as_bytes.ensures.value)
    (text_grows _ _ list c.replace_range.new.self _ _ c.replace_range.result (grown g (goal.at.returns g c).After-replace_range)
    (chars_put (tiny_items list) (text_utf8 list c.self.invariant) _ _ cut.first cut.last _ c.as_bytes.ensures.utf8))
