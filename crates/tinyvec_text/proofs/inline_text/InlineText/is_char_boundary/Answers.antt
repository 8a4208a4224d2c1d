use Rattle.std.proofs.Common.{subst, rules}
use Rattle.std.specs.String.Boundary.{IsSplitPoint}
use Rattle.tinyvec_text.specs.InlineText.{Text}
use Rattle.tinyvec_text.proofs.Boundaries.{first_byte}
use Rattle.tinyvec_text.proofs.Lists.{text_utf8, text_cut}
use Rattle.tinyvec_text.proofs.inline_text.InlineText.is_char_boundary.Goals as goal

pub splits_at-requires : goal.splits_at-requires
splits_at-requires g c = (search rules, (search rules, first_byte _ (text_utf8 c.self.inside.list c.self.invariant)))

pub returns : goal.returns
returns g c =
    let i = c.args.index in (
      λ yes. record { is = subst (λ (t : Text). IsSplitPoint t.bytes i) c.self.view_is (c.splits_at.ensures.0 yes) },
      λ cut. c.splits_at.ensures.1 (text_cut c.self.inside.list c.args.self.now c.self.view_is i cut),
    )
