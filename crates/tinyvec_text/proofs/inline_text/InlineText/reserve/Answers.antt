use Rattle.std.proofs.Common.{refl}
use Rattle.tinyvec.specs.View.{Reserved}
use Rattle.tinyvec_text.proofs.Lists.{text_utf8, text_after, text_grows}
use Rattle.tinyvec_text.proofs.inline_text.InlineText.reserve.Goals as goal

pub invariant_of-self : goal.invariant_of-self
invariant_of-self g c =
    let put = c.reserve.ensures in
    text_after Reserved _ c.self.inside.list c.reserve.new.self _ c.reserve.result (record { ok = put.ok; refused = put.refused; succeeds = λ fits. (put.kept fits).0 }) c.self.invariant
    (text_utf8 c.self.inside.list c.self.invariant)

pub returns : goal.returns
returns g c =
    let put = c.reserve.ensures in
    rw (← c.self.view_is)
    (text_grows Reserved _ c.self.inside.list c.reserve.new.self _ _ c.reserve.result (record { ok = put.ok; refused = put.refused; succeeds = λ fits. (put.kept fits).0 }) refl)
