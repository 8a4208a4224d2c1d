use Rattle.std.proofs.Common.{◌++◌, sym, ap, ◌∙◌}
use Rattle.std.specs.Prelude.{Result, Ok, Err, MatchResult, OnOk}
use Rattle.tinyvec_examples.proofs.tiny_vec.moved_by_iterator.Goals as goal

-- what a success tells
on_success : {X E P R : Type 0} (Q : E → Type 0) (r : Result X E) → MatchResult r (λ x. P) Q → (P → R) → OnOk r R
on_success Q (Ok x) h f = f h
on_success Q (Err e) h f = tt

pub returns : goal.returns
returns g c =
    let h = c.extend.ensures.items.listed (λ left. left) (λ s r t step. step) in
    on_success _ c.extend.result h.3 (λ all. h.4 ∙ ap (λ l. l ++ h.1) c.requires ∙ sym all ∙ h.2.rest)
