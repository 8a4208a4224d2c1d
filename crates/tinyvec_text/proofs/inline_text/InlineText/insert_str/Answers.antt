use Rattle.std.proofs.Common.{◌-◌, ◌+◌, ◌++◌, length, take, drop, arith, rules}
use Rattle.std.specs.declared.ops.Bound.TheVariants.{Included, Excluded}
use Rattle.tinyvec.specs.TinyVec.{tiny_items, tiny_len}
use Rattle.tinyvec.specs.View.{Reserved}
use Rattle.tinyvec_text.proofs.Boundaries.{utf8_put, chars_put}
use Rattle.tinyvec_text.proofs.Lists.{ListGrows, list_replaced, text_utf8, text_cut, text_after, text_grows}
use Rattle.tinyvec_text.proofs.inline_text.InlineText.insert_str.Goals.{After-replace_range}
use Rattle.tinyvec_text.proofs.inline_text.InlineText.insert_str.Goals as goal

-- what the list became
grown : (g : _) (c : After-replace_range g) → let bs = tiny_items c.self.inside.list in ListGrows Reserved (tiny_len c.self.inside.list + length c.as_bytes.result.now)
    c.self.inside.list c.replace_range.new.self (take c.args.index bs ++ c.as_bytes.result.now ++ drop c.args.index bs) c.replace_range.result
grown g c =
    let list = c.self.inside.list in
    let i = c.args.index in
    let put = c.replace_range in
    list_replaced list put.new.self (Included i) (Excluded i) _ put.result (search rules, (text_cut list c.args.self.now c.self.view_is i c.requires).0)
    put.ensures.items put.ensures.ok put.ensures.succeeds put.ensures.refused _ (omega arith)

pub replace_range-requires-clause-in_list : goal.replace_range-requires-clause-in_list
replace_range-requires-clause-in_list g c = (search rules, (text_cut c.self.inside.list c.args.self.now c.self.view_is c.args.index c.requires).0)

pub invariant_of-self : goal.invariant_of-self
invariant_of-self g c =
    let list = c.self.inside.list in
    let i = c.args.index in
    let cut = text_cut list c.args.self.now c.self.view_is i c.requires in
    text_after _ _ list c.replace_range.new.self _ c.replace_range.result (grown g (goal.at.invariant_of-self g c).After-replace_range) c.self.invariant
    (utf8_put (tiny_items list) (text_utf8 list c.self.invariant) i i cut cut _ c.as_bytes.ensures.utf8)

pub returns : goal.returns
returns g c =
    let list = c.self.inside.list in
    let i = c.args.index in
    let cut = text_cut list c.args.self.now c.self.view_is i c.requires in
    rw (← c.self.view_is, ← c.as_bytes.ensures.value)
    (text_grows _ _ list c.replace_range.new.self _ _ c.replace_range.result (grown g (goal.at.returns g c).After-replace_range)
    (chars_put (tiny_items list) (text_utf8 list c.self.invariant) i i cut cut _ c.as_bytes.ensures.utf8))
