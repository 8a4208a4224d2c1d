use Rattle.std.proofs.Common.{◌≡◌, ap, sym, subst, ◌∙◌, IsUtf8, length, take}
use Rattle.tinyvec.specs.TinyVec.{tiny_view}
use Rattle.tinyvec.specs.View.{Becomes}
use Rattle.tinyvec_text.proofs.Lists.{text_utf8, text_stays, text_unmoved, overwritten}
use Rattle.tinyvec_text.proofs.inline_text.InlineText.retain.Goals.{After-truncate}
use Rattle.tinyvec_text.proofs.inline_text.InlineText.retain.Goals as goal

-- what was left of the list
made : (g : _) (c : After-truncate g) → Becomes (λ b. b ≡ 0) (tiny_view c.self.inside.list) (tiny_view c.truncate.new.self) (take c.move_kept_to_front-kept.result c.move_kept_to_front-kept.new.bytes)
made g c =
    let kept = c.move_kept_to_front-kept in
    overwritten g.row.N c.self.inside.list kept.new.bytes (kept.auto.bytes ∙ ap length c.as_mut_slice.ensures.value) c.truncate.new.self (take kept.result) c.truncate.ensures

pub move_kept_to_front-kept-requires-clause-utf8 : goal.move_kept_to_front-kept-requires-clause-utf8
move_kept_to_front-kept-requires-clause-utf8 g c = subst IsUtf8 (sym c.as_mut_slice.ensures.value) (text_utf8 c.self.inside.list c.self.invariant)

pub invariant_of-self : goal.invariant_of-self
invariant_of-self g c =
    text_stays c.self.inside.list c.truncate.new.self _ (made g (goal.at.invariant_of-self g c).After-truncate) c.self.invariant c.move_kept_to_front-kept.ensures.utf8

pub returns-clause-frame : goal.returns-clause-frame
returns-clause-frame g c =
    text_unmoved c.self.inside.list c.truncate.new.self c.args.self.now _ c.self.view_is (made g (goal.at.returns-clause-frame g c).After-truncate)
