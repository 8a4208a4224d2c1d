use Rattle.std.proofs.Common.{◌+◌, ◌-◌, ◌∷◌, ◌∙◌, ap, sym, arith, length, take, drop}
use Rattle.std.proofs.lemmas.List.{take_all, length-drop}
use Rattle.example_dns_query.specs.Parts.{parts}
use Rattle.example_dns_query.proofs.PartsLemmas.{first_at, first_last}
use Rattle.example_dns_query.proofs.parts.first_part.Goals as goal

pub returns-then-byte-separator : goal.returns-then-byte-separator
returns-then-byte-separator c =
    let text = c.args.text.now in
    let i = c.loop-index.index in
    let behind = drop (i + 1) text in
    first_at c.args.separator text i (omega arith) c.loop-index.invariant c.if-byte-separator.true
    ∙ ap (λ rest. take i text ∷ parts c.args.separator rest) (sym (take_all (length text - (i + 1)) behind (omega (arith, length-drop (i + 1) text))))

pub returns : goal.returns
returns c = first_last c.args.separator c.args.text.now (λ k below. c.loop-index.invariant k (omega arith))
