use Rattle.std.proofs.Common.{refl}
use Rattle.tinyvec.specs.View.{Exact}
use Rattle.tinyvec_text.proofs.Lists.{text_utf8, text_after, text_grows}
use Rattle.tinyvec_text.proofs.inline_text.InlineText.reserve_exact.Goals as goal

pub invariant_of-self : goal.invariant_of-self
invariant_of-self g c =
    let put = c.reserve_exact.ensures in
    text_after Exact _ c.self.inside.list c.reserve_exact.new.self _ c.reserve_exact.result (record { ok = put.ok; refused = put.refused; succeeds = λ fits. (put.kept fits).0 }) c.self.invariant
    (text_utf8 c.self.inside.list c.self.invariant)

pub returns : goal.returns
returns g c =
    let put = c.reserve_exact.ensures in
    rw (← c.self.view_is)
    (text_grows Exact _ c.self.inside.list c.reserve_exact.new.self _ _ c.reserve_exact.result (record { ok = put.ok; refused = put.refused; succeeds = λ fits. (put.kept fits).0 }) refl)
