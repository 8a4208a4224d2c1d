use Rattle.std.proofs.Common.{◌+◌, ◌++◌, length, IsUtf8, ap, sym, subst, ◌∙◌, chars, rules}
use Rattle.std.specs.Prelude.{slice_range}
use Rattle.std.proofs.lemmas.Str.{IsUtf8-append, IsUtf8-nil, chars-append}
use Rattle.tinyvec.specs.TinyVec.{tiny_items, tiny_len}
use Rattle.tinyvec.specs.View.{Reserved}
use Rattle.tinyvec_text.proofs.Lists.{ListGrows, CutsAt, list_extended, text_range, text_made, text_stays, text_after, text_unmoved}
use Rattle.tinyvec_text.proofs.inline_text.InlineText.drain.Goals.{After-resolve_range-part, After-extend_from_slice_copy-room_was_there}
use Rattle.tinyvec_text.proofs.inline_text.InlineText.drain.Goals as goal

-- the range
cuts : (g : _) (c : After-resolve_range-part g) → CutsAt (tiny_items c.self.inside.list) c.args.self.now.bytes (g.R.RangeBounds.start_bound c.args.range)
    (g.R.RangeBounds.end_bound c.args.range) c.resolve_range-part.result.start c.resolve_range-part.result.end
cuts g c =
    let part = c.resolve_range-part.ensures in
    text_range c.self.inside.list c.args.self.now c.self.view_is c.self.invariant _ _ c.requires.start_le_end c.requires.start_boundary
    c.requires.end_boundary _ _ _ part.start part.end c.len.ensures.value

-- what the copy of the range became
copied : (g : _) (c : After-extend_from_slice_copy-room_was_there g) → ListGrows Reserved (tiny_len c.in_ok-list.list + length c.subslice-bytes.result.now) c.in_ok-list.list
    c.extend_from_slice_copy-room_was_there.new.self (tiny_items c.in_ok-list.list ++ c.subslice-bytes.result.now) c.extend_from_slice_copy-room_was_there.result
copied g c =
    let put = c.extend_from_slice_copy-room_was_there in
    list_extended c.in_ok-list.list put.new.self _ put.result put.ensures.ok put.ensures.refused put.ensures.succeeds

pub invariant_of-text : goal.invariant_of-text
invariant_of-text g c =
    let made = c.in_ok-list.ensures in
    let seen = c.subslice-bytes.ensures ∙ (λ i. slice_range (c.as_slice.ensures i) c.resolve_range-part.result.start c.resolve_range-part.result.end) in
    let at = goal.at.invariant_of-text g c in
    let own = (cuts g at.After-resolve_range-part).utf8.1 in
    let new = text_made _ c.in_ok-list.list (subst IsUtf8 (sym made.items) IsUtf8-nil) made.made.spare in
    text_after _ _ c.in_ok-list.list c.extend_from_slice_copy-room_was_there.new.self _ c.extend_from_slice_copy-room_was_there.result (copied g at.After-extend_from_slice_copy-room_was_there) new
    (subst IsUtf8 (sym (λ i. made.items i ++ seen i)) own)

pub remove_bytes-requires : goal.remove_bytes-requires
remove_bytes-requires g c =
    let cut = cuts g (goal.at.remove_bytes-requires g c).After-resolve_range-part in (search rules, (search rules, (cut.order, cut.last.0)))

pub invariant_of-self : goal.invariant_of-self
invariant_of-self g c =
    let parts = (cuts g (goal.at.invariant_of-self g c).After-resolve_range-part).utf8 in
    text_stays c.self.inside.list c.remove_bytes.new.list _ c.remove_bytes.ensures c.self.invariant (IsUtf8-append _ _ parts.0 parts.2)

pub returns-clause-text : goal.returns-clause-text
returns-clause-text g c =
    let cut = cuts g (goal.at.returns-clause-text g c).After-resolve_range-part in
    ap chars c.remove_bytes.ensures.items ∙ chars-append _ _ cut.utf8.0 ∙ (λ i. chars (cut.front i) ++ chars (cut.back i))

pub returns-clause-frame : goal.returns-clause-frame
returns-clause-frame g c = text_unmoved c.self.inside.list c.remove_bytes.new.list c.args.self.now _ c.self.view_is c.remove_bytes.ensures
